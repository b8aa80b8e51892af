use Rattle.std.proofs.Common.{ℕ, ◌+◌, ◌<◌, length}
use Rattle.std.specs.Prelude.{reverse}
use Rattle.sd_state.specs.declared.states.State.{State as StateOf}
use Rattle.sd_search.specs.Graphs.{IsAt, IsDeep, packed, steps_of}
use Rattle.sd_search.proofs.PathLemmas.{IsWay}
use Rattle.sd_search.proofs.graph.Graph.path.Given as goal

abbrev pub invariant-loop-at : goal.invariant-loop-at
invariant-loop-at l = record {
  inside : l.at < length (packed l.self);
  way : (x : StateOf) → IsAt (packed l.self) l.fn.i x → IsWay l.work (packed l.self) l.at (reverse l.cpus.items) x;
  deep : (m : ℕ) → IsDeep (steps_of l.self) l.at m → IsDeep (steps_of l.self) l.fn.i (length l.cpus.items + m);
}

-- proposed from the loop's first test
abbrev pub decreases-loop-at : goal.decreases-loop-at
decreases-loop-at l = l.at
