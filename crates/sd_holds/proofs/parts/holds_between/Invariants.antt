use Rattle.std.proofs.Common.{◌≡◌, ◌++◌, length}
use Rattle.sd_holds.specs.Bands.{holds_between}
use Rattle.sd_holds.proofs.parts.holds_between.Given as goal

abbrev pub invariant-loop-x : goal.invariant-loop-x
invariant-loop-x l = l.found.items ++ holds_between l.end l.from l.to l.left ≡ holds_between l.end l.from l.to l.happenings

abbrev pub decreases-loop-x : goal.decreases-loop-x
decreases-loop-x l = length l.left
