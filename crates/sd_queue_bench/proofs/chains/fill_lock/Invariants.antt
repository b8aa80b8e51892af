use Rattle.std.proofs.Common.{◌≡◌}
use Rattle.sd_queue_bench.proofs.chains.fill_lock.Given as goal

abbrev pub invariant-loop-id : goal.invariant-loop-id
invariant-loop-id g l = l.chain.chain ≡ 0
