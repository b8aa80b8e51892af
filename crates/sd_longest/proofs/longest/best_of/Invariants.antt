use Rattle.sd_longest.specs.Candidates.{IsBestBelow}
use Rattle.sd_longest.specs.Edges.{rows_of}
use Rattle.sd_longest.proofs.longest.best_of.Given as goal

abbrev pub invariant-loop-i : goal.invariant-loop-i
invariant-loop-i l = IsBestBelow (rows_of l.rows) l.labels l.i l.best
