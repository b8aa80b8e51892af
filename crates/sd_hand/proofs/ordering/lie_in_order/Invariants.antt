use Rattle.std.proofs.Common.{ℕ, ◌<◌, ◌+◌}
use Rattle.sd_hand.specs.Orders.{AreAt}
use Rattle.sd_hand.proofs.ordering.lie_in_order.Given as goal

abbrev pub invariant-loop-i : goal.invariant-loop-i
invariant-loop-i l = AreAt l.kind l.from l.i l.slots
