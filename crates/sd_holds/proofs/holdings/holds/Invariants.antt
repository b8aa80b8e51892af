use Rattle.std.proofs.Common.{◌≡◌, ◌++◌, length}
use Rattle.sd_holds.specs.Holds.{holds}
use Rattle.sd_holds.proofs.holdings.holds.Given as goal

abbrev pub invariant-loop-x : goal.invariant-loop-x
invariant-loop-x l = l.found.items ++ holds l.end l.left ≡ holds l.end l.happenings

abbrev pub decreases-loop-x : goal.decreases-loop-x
decreases-loop-x l = length l.left
