use Rattle.std.proofs.Common.{◌≡◌, ℕ, ◌*◌, ◌≤◌, ◌⊎◌, length}
use Rattle.sd_search.specs.Graphs.{Gathers, packed}
use Rattle.sd_search_answers.specs.Watched.{AreNoted, slice}
use Rattle.sd_search_answers.proofs.answering.search.Given as goal

abbrev pub invariant-loop : goal.invariant-loop
invariant-loop g l = record {
  gathered : Gathers l.work l.graph;
  few : (length (packed l.graph) ≤ l.most) ⊎ (length (packed l.graph) ≡ 1);
  watched : (n : ℕ) × (l.graph.done ≡ n * slice) × AreNoted g.W.Watch.noted l.work n l.initial.watch l.watch;
}
