use Rattle.sd_set_inputs.proofs.SetLemmas.{sets_sound}
use Rattle.sd_set_inputs.proofs.laws.sets_are_sound.Goals as goal

pub returns : goal.returns
returns c = sets_sound
