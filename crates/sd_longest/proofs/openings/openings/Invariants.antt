use Rattle.sd_longest.specs.Edges.{rows_of}
use Rattle.sd_longest.specs.Openings.{AreOpeningsBelow}
use Rattle.sd_longest.proofs.openings.openings.Given as goal

abbrev pub invariant-loop-i : goal.invariant-loop-i
invariant-loop-i l = AreOpeningsBelow (rows_of l.rows) l.i l.found.items
