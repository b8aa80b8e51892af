use Rattle.sd_stretches.proofs.ExactLemmas.{are_exact}
use Rattle.sd_stretches.proofs.laws.stretches_are_exact.Goals as goal

pub returns : goal.returns
returns c = are_exact
