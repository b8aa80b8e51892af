use Rattle.std.proofs.Common.{◌≡◌, length}
use Rattle.sd_layout.specs.Folds.{first_fit}
use Rattle.sd_layout.proofs.folds.first_fit.Given as goal

abbrev pub invariant-loop-scale : goal.invariant-loop-scale
invariant-loop-scale l = first_fit l.frame l.folds l.left ≡ first_fit l.frame l.folds l.scales

abbrev pub decreases-loop-scale : goal.decreases-loop-scale
decreases-loop-scale l = length l.left
