use Rattle.sd_invariants.proofs.Complete.{complete_at_limit}
use Rattle.sd_invariants.proofs.range_laws.complete_runs_reach_the_limit.Goals as goal

pub returns : goal.returns
returns c = λ w n s reached complete cpu inside. complete_at_limit w n s reached complete cpu inside
