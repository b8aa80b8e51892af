use Rattle.std.proofs.Common.{◌≡◌}
use Rattle.sd_queue_bench.proofs.chains.put_sleepers.Given as goal

abbrev pub invariant-loop : goal.invariant-loop
invariant-loop g l = l.chain.chain ≡ 0
