use Rattle.sd_longest.specs.Edges.{rows_of}
use Rattle.sd_longest.specs.Heights.{AreReached}
use Rattle.sd_longest.proofs.heights.heights.Given as goal

abbrev pub invariant-loop : goal.invariant-loop
invariant-loop l = AreReached (rows_of l.rows) l.heights.items
