use Rattle.sd_search.specs.Finals.{AreFinals}
use Rattle.sd_search.specs.Graphs.{packed}
use Rattle.sd_search.proofs.graph.Graph.finals.Given as goal

abbrev pub invariant-loop-i : goal.invariant-loop-i
invariant-loop-i l = AreFinals l.work (packed l.self) l.i l.finals.items
