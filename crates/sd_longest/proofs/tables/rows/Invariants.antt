use Rattle.sd_search.specs.Graphs.{packed}
use Rattle.sd_longest.specs.Edges.{rows_of}
use Rattle.sd_longest.specs.Tables.{AreRows}
use Rattle.sd_longest.proofs.tables.rows.Given as goal

abbrev pub invariant-loop-i : goal.invariant-loop-i
invariant-loop-i l = AreRows l.work (packed l.graph) l.thread l.i (rows_of l.rows.items)
