use Rattle.std.proofs.Common.{◌≡◌, length}
use Rattle.sd_queue_tests.proofs.box_queues.many.Given as goal

abbrev pub invariant-loop-id : goal.invariant-loop-id
invariant-loop-id l = length l.queue ≡ l.id
