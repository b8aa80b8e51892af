use Rattle.std.proofs.Common.{◌<◌, ◌≤◌, length}
use Rattle.sd_types.specs.declared.numbers.CpuId.{CpuId}
use Rattle.sd_search.specs.Graphs.{IsGrown, IsTurned, packed}
use Rattle.sd_search.proofs.graph.Graph.visit_all.Given as goal

abbrev pub invariant-loop-c : goal.invariant-loop-c
invariant-loop-c l = record {
  grown : IsGrown l.work l.initial.self l.self;
  few : length (packed l.self) ≤ l.most;
  turned : (d : CpuId) → d.0 < l.c → IsTurned l.work (packed l.self) l.state d;
}
