use Rattle.std.proofs.Common.{◌≡◌, ◌++◌, length}
use Rattle.sd_stretches.specs.SpinPieces.{spells_from, spells_of}
use Rattle.sd_stretches.proofs.spin_pieces.joined.Given as goal

abbrev pub invariant-loop-x : goal.invariant-loop-x
invariant-loop-x l = l.found.items ++ spells_from l.current l.left ≡ spells_of l.spells

abbrev pub decreases-loop-x : goal.decreases-loop-x
decreases-loop-x l = length l.left
