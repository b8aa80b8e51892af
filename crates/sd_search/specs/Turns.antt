-- The turn of a processor from a state that was gathered, by the number of the state that it leads to.
-- Source: this project's own.
use Rattle.std.specs.Prelude.{◌≡◌, ℕ, List, Option, Some, None}
use Rattle.sd_types.specs.declared.numbers.CpuId.{CpuId}
use Rattle.sd_types.specs.declared.events.Event.{Event}
use Rattle.sd_types.specs.declared.works.Work.{Work}
use Rattle.sd_state.specs.declared.states.State.{State}
use Rattle.sd_machine.specs.Events.{after, next}
use Rattle.sd_machine.specs.Runs.{serial_hints}
use Rattle.sd_encoding.specs.Order.{IsSameOrder}
use Rattle.sd_search.specs.declared.turning.Turn.{Turn}
use Rattle.sd_search.specs.Graphs.{IsAt}

-- an event of processor c in state x leads to state number i, up to the order of keys
pub record LeadsTo (w : Work) (bs : List (List ℕ)) (x : State) (c : CpuId) (e : Event) (i : ℕ) : Type 0 where
  pub state : State
  pub at : IsAt bs i state
  pub same : IsSameOrder state (after w x 0 c e)

-- the processor makes this event, and it leads there
pub record Makes (w : Work) (bs : List (List ℕ)) (x : State) (c : CpuId) (t : Turn) : Type 0 where
  pub event : next w x c (serial_hints w x c) ≡ Some t.event
  pub leads : LeadsTo w bs x c t.event t.to

-- or it can make none
abbrev pub IsTurnOf : Work → List (List ℕ) → State → CpuId → Option Turn → Type 0
IsTurnOf w bs x c (Some t) = Makes w bs x c t
IsTurnOf w bs x c None = next w x c (serial_hints w x c) ≡ None
