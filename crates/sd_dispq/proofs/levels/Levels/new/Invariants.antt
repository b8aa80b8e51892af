use Rattle.std.proofs.Common.{◌≡◌, [], replicate}
use Rattle.sd_dispq.proofs.levels.Levels.new.Given as goal

abbrev pub invariant-loop : goal.invariant-loop
invariant-loop g l = (l.queues.items ≡ replicate l.counter []) × (l.queues.cap ≡ l.initial.queues.cap)
