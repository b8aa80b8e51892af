use Rattle.sd_holds.proofs.ExactLemmas.{holds_exact}
use Rattle.sd_holds.proofs.laws.holds_are_exact.Goals as goal

pub returns : goal.returns
returns c = holds_exact
