use Rattle.sd_search.specs.Graphs.{packed}
use Rattle.sd_extremes.specs.Marks.{IsBefore, Spans}
use Rattle.sd_extremes.proofs.scanning.look_at.Given as goal

abbrev pub invariant-loop-c : goal.invariant-loop-c
invariant-loop-c l = Spans l.work (packed l.graph) l.thread (IsBefore l.i l.c) l.span
