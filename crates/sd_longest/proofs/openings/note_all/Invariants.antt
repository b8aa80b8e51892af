use Rattle.sd_longest.specs.Edges.{rows_of}
use Rattle.sd_longest.proofs.OpeningLemmas.{AreAlong}
use Rattle.sd_longest.proofs.openings.note_all.Given as goal

abbrev pub invariant-loop-edge : goal.invariant-loop-edge
invariant-loop-edge l = AreAlong (rows_of l.rows) l.from l.row l.edge-index l.found.items
