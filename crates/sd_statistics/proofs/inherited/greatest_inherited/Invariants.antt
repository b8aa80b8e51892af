use Rattle.std.proofs.Common.{◌≡◌, length}
use Rattle.std.specs.Prelude.{max}
use Rattle.sd_statistics.specs.Inherited.{greatest_inherited}
use Rattle.sd_statistics.proofs.inherited.greatest_inherited.Given as goal

abbrev pub invariant-loop-x : goal.invariant-loop-x
invariant-loop-x l = max l.greatest (greatest_inherited l.left) ≡ greatest_inherited l.initial.left

abbrev pub decreases-loop-x : goal.decreases-loop-x
decreases-loop-x l = length l.left
