use Rattle.std.proofs.Common.{◌≡◌, ◌++◌, length}
use Rattle.sd_stretches.specs.Rows.{slices}
use Rattle.sd_stretches.proofs.rows.slices.Given as goal

abbrev pub invariant-loop-x : goal.invariant-loop-x
invariant-loop-x l = l.found.items ++ slices l.c l.left l.entries l.end ≡ slices l.c l.onsets l.entries l.end

abbrev pub decreases-loop-x : goal.decreases-loop-x
decreases-loop-x l = length l.left
