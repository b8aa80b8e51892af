use Rattle.std.proofs.Common.{◌≡◌, ◌<◌, ℕ, Some}
use Rattle.std.specs.Prelude.{slice_get}
use Rattle.sd_state.specs.declared.states.State.{State}
use Rattle.sd_search.specs.Graphs.{IsAt, packed}
use Rattle.sd_search.specs.Questions.{HasPart}
use Rattle.sd_search.proofs.graph.Graph.find.Given as goal

-- none of those before is as was asked for
abbrev pub invariant-loop-i : goal.invariant-loop-i
invariant-loop-i l = (k j : ℕ) → k < l.i-index → slice_get l.finals k ≡ Some j → (x : State) → IsAt (packed l.self) j x → HasPart l.work l.question x → ⊥
