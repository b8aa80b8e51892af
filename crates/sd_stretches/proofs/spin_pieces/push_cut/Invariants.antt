use Rattle.std.proofs.Common.{◌≡◌, ◌++◌, length}
use Rattle.sd_stretches.specs.SpinPieces.{cut}
use Rattle.sd_stretches.proofs.spin_pieces.push_cut.Given as goal

abbrev pub invariant-loop-s : goal.invariant-loop-s
invariant-loop-s l = l.out.items ++ cut l.c l.rest l.left ≡ l.initial.out.items ++ cut l.c l.fn.x l.spells

abbrev pub decreases-loop-s : goal.decreases-loop-s
decreases-loop-s l = length l.left
