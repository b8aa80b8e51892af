use Rattle.std.proofs.Common.{◌≡◌, ◌++◌, length}
use Rattle.sd_stretches.specs.SpinPieces.{cut_all}
use Rattle.sd_stretches.proofs.spin_pieces.cut_all.Given as goal

abbrev pub invariant-loop-x : goal.invariant-loop-x
invariant-loop-x l = l.found.items ++ cut_all l.left l.ahead ≡ cut_all l.own l.spells

abbrev pub decreases-loop-x : goal.decreases-loop-x
decreases-loop-x l = length l.left
