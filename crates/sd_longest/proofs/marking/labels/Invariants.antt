use Rattle.sd_longest.specs.Edges.{rows_of}
use Rattle.sd_longest.proofs.SettledLemmas.{IsSettled}
use Rattle.sd_longest.proofs.marking.labels.Given as goal

abbrev pub invariant-loop-opening : goal.invariant-loop-opening
invariant-loop-opening l = IsSettled (rows_of l.rows) l.openings l.opening-index l.marking
