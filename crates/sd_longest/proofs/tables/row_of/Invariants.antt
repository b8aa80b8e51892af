use Rattle.sd_search.specs.Graphs.{packed}
use Rattle.sd_longest.specs.Tables.{HasTurns}
use Rattle.sd_longest.proofs.tables.row_of.Given as goal

abbrev pub invariant-loop-c : goal.invariant-loop-c
invariant-loop-c l = HasTurns l.work (packed l.graph) l.thread l.i l.c l.row.items
