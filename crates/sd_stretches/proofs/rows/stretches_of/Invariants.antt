use Rattle.std.proofs.Common.{◌≡◌, ◌++◌, length}
use Rattle.sd_stretches.specs.Rows.{stretches_of}
use Rattle.sd_stretches.proofs.rows.stretches_of.Given as goal

abbrev pub invariant-loop-x : goal.invariant-loop-x
invariant-loop-x l = l.found.items ++ stretches_of l.entries l.end l.left ≡ stretches_of l.entries l.end l.initial.left

abbrev pub decreases-loop-x : goal.decreases-loop-x
decreases-loop-x l = length l.left
