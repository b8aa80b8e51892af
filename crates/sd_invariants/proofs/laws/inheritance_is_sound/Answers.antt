use Rattle.sd_invariants.proofs.FineLemmas.{sound_law}
use Rattle.sd_invariants.proofs.laws.inheritance_is_sound.Goals as goal

pub returns : goal.returns
returns c = sound_law
