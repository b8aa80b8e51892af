use Rattle.sd_longest.specs.Edges.{rows_of}
use Rattle.sd_longest.proofs.MarkLemmas.{IsExpanding}
use Rattle.sd_longest.proofs.marking.Marking.expand.Given as goal

abbrev pub invariant-loop-edge : goal.invariant-loop-edge
invariant-loop-edge l = IsExpanding (rows_of l.rows) l.tick l.i l.label l.row l.edge-index l.initial.self l.self
