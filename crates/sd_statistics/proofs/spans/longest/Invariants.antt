use Rattle.std.proofs.Common.{◌≡◌, length}
use Rattle.sd_statistics.specs.Spans.{longer, longest}
use Rattle.sd_statistics.proofs.spans.longest.Given as goal

abbrev pub invariant-loop-x : goal.invariant-loop-x
invariant-loop-x l = longer l.best (longest l.left) ≡ longest l.initial.left

abbrev pub decreases-loop-x : goal.decreases-loop-x
decreases-loop-x l = length l.left
