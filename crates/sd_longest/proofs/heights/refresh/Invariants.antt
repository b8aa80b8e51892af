use Rattle.sd_longest.specs.Edges.{rows_of}
use Rattle.sd_longest.specs.Heights.{AreReached}
use Rattle.sd_longest.proofs.heights.refresh.Given as goal

abbrev pub invariant-loop-i : goal.invariant-loop-i
invariant-loop-i l = AreReached (rows_of l.rows) l.heights
