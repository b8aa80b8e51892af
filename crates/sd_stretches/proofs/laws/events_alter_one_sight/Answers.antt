use Rattle.sd_stretches.proofs.AlteredLemmas.{alter_one}
use Rattle.sd_stretches.proofs.laws.events_alter_one_sight.Goals as goal

pub returns : goal.returns
returns c = alter_one
