use Rattle.sd_search.specs.Graphs.{packed}
use Rattle.sd_extremes.proofs.MissLemmas.{IsNoneOf}
use Rattle.sd_extremes.proofs.misses.first_left.Given as goal

-- none of those before is so
abbrev pub invariant-loop-i : goal.invariant-loop-i
invariant-loop-i l = IsNoneOf l.work (packed l.graph) l.thread l.finals l.i-index
