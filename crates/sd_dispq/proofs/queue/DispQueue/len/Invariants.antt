use Rattle.std.proofs.Common.{◌≡◌, ◌+◌, length}
use Rattle.sd_dispq.proofs.queue.DispQueue.len.Given as goal

abbrev pub invariant-loop : goal.invariant-loop
invariant-loop g l = l.count + length l.iterator' ≡ length l.self
