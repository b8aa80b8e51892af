use Rattle.std.proofs.Common.{◌≡◌, ◌++◌, [], length}
use Rattle.sd_holds.specs.Bands.{banded}
use Rattle.sd_holds.proofs.banding.banded.Given as goal

abbrev pub invariant-loop-x : goal.invariant-loop-x
invariant-loop-x l = l.found.items ++ banded l.ends.items l.left ≡ banded [] l.own

abbrev pub decreases-loop-x : goal.decreases-loop-x
decreases-loop-x l = length l.left
