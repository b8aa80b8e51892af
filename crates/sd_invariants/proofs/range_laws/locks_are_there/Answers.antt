use Rattle.sd_invariants.proofs.All.{locks_law}
use Rattle.sd_invariants.proofs.range_laws.locks_are_there.Goals as goal

pub returns : goal.returns
returns c = locks_law
