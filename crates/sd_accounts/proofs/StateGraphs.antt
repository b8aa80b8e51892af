-- The lock graph of a state has no waiter but its threads.
use Rattle.std.proofs.Common.{◌≡◌, ℕ, ◌<◌, length, Some, sym, ap, ◌∙◌, inl, inr}
use Rattle.std.proofs.lemmas.Bool.{cases_lt}
use Rattle.std.proofs.lemmas.List.{get_or_past}
use Rattle.std.proofs.lemmas.Option.{none-some}
use Rattle.sd_state.specs.declared.states.State.{State}
use Rattle.sd_state.specs.States.{no_thread}
use Rattle.sd_machine.specs.Graphs.{Wait}
use Rattle.sd_machine.specs.LockGraph.{wait_of, graph}

pub waits_inside : (s : State) (t : ℕ) (w : Wait) → (graph s).waits t ≡ Some w → t < length s.threads
waits_inside s t w waits = elim (cases_lt t (length s.threads)) [
  | inl inside ↦ inside
  | inr past ↦ absurd (none-some w (sym (ap (λ x. wait_of x.place) (get_or_past s.threads t no_thread past)) ∙ waits))
]
