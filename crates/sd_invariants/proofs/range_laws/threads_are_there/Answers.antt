use Rattle.sd_invariants.proofs.All.{threads_law}
use Rattle.sd_invariants.proofs.range_laws.threads_are_there.Goals as goal

pub returns : goal.returns
returns c = threads_law
