use Rattle.sd_dispadmin.proofs.LawLemmas.{ceiling}
use Rattle.sd_dispadmin.proofs.laws.ticks_are_the_ceiling.Goals as goal

pub returns : goal.returns
returns c = ceiling
