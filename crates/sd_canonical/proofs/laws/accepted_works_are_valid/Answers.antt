use Rattle.sd_canonical.proofs.RangeLemmas.{accepted-valid}
use Rattle.sd_canonical.proofs.laws.accepted_works_are_valid.Goals as goal

pub returns : goal.returns
returns c = accepted-valid
