use Rattle.std.specs.Prelude.{reverse}
use Rattle.sd_longest.specs.Edges.{rows_of}
use Rattle.sd_longest.proofs.WalkLemmas.{IsWayTo}
use Rattle.sd_longest.proofs.longest.wait_to.Given as goal

abbrev pub invariant-loop-label : goal.invariant-loop-label
invariant-loop-label l = IsWayTo (rows_of l.rows) l.labels l.label (reverse l.cpus.items) l.end.ticks

abbrev pub decreases-loop-label : goal.decreases-loop-label
decreases-loop-label l = l.label.steps
