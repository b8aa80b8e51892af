use Rattle.std.proofs.Common.{◌≡◌, ◌++◌, length}
use Rattle.sd_layout.specs.Folds.{folds_from}
use Rattle.sd_layout.proofs.folds.folds_from.Given as goal

abbrev pub invariant-loop-b : goal.invariant-loop-b
invariant-loop-b l = l.found.items ++ folds_from l.a l.left ≡ folds_from l.first l.stops

abbrev pub decreases-loop-b : goal.decreases-loop-b
decreases-loop-b l = length l.left
