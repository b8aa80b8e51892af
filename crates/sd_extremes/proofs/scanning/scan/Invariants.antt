use Rattle.sd_search.specs.Graphs.{packed}
use Rattle.sd_extremes.specs.Marks.{IsBelow, Spans}
use Rattle.sd_extremes.proofs.scanning.scan.Given as goal

abbrev pub invariant-loop-i : goal.invariant-loop-i
invariant-loop-i l = Spans l.work (packed l.graph) l.thread (IsBelow l.i) l.span
