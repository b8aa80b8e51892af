use Rattle.std.proofs.Common.{◌≡◌, length}
use Rattle.sd_timeline.specs.Circles.{trimmed_by}
use Rattle.sd_timeline.proofs.circles.circle.Given as goal

abbrev pub invariant-loop-left : goal.invariant-loop-left
invariant-loop-left l = trimmed_by l.holds l.left l.found.items ≡ trimmed_by l.holds (length l.fn.wants.items) l.fn.wants.items

abbrev pub decreases-loop-left : goal.decreases-loop-left
decreases-loop-left l = l.left
