use Rattle.sd_longest.specs.Edges.{rows_of}
use Rattle.sd_longest.proofs.CandidateLemmas.{IsBestAlong}
use Rattle.sd_longest.proofs.longest.look_along.Given as goal

abbrev pub invariant-loop-edge : goal.invariant-loop-edge
invariant-loop-edge l = IsBestAlong (rows_of l.rows) l.labels l.i l.label l.row l.edge-index l.best
