use Rattle.std.proofs.Common.{◌≡◌, ◌+◌, ◌≤◌, ◌⊎◌, length}
use Rattle.sd_search.specs.Graphs.{Gathers, packed}
use Rattle.sd_search.proofs.exploring.explore_more.Given as goal

abbrev pub invariant-states : goal.invariant-states
invariant-states l = record {
  gathered : Gathers l.work l.graph;
  many : (l.graph.done + l.left ≡ l.initial.graph.done + l.states) ⊎ (l.most ≤ length (packed l.graph));
  few : (length (packed l.graph) ≤ l.most) ⊎ (packed l.graph ≡ packed l.initial.graph);
}

abbrev pub decreases-states : goal.decreases-states
decreases-states l = l.left
