-- Sets of states that no interleaving of a workload leaves, up to the order of keys: what a search over all orders in which
-- the processors of a workload can act has gathered when it ends.
-- Source: this project's own.
use Rattle.std.specs.Prelude.{◌≡◌, [], ◌∷◌, Some, ⊤}
use Rattle.sd_types.specs.declared.numbers.CpuId.{CpuId}
use Rattle.sd_types.specs.declared.events.Event.{Event}
use Rattle.sd_types.specs.declared.works.Work.{Work}
use Rattle.sd_state.specs.declared.states.State.{State}
use Rattle.sd_state.specs.Opening.{opening}
use Rattle.sd_machine.specs.Events.{after, next}
use Rattle.sd_machine.specs.Runs.{serial_hints}
use Rattle.sd_encoding.specs.Order.{IsSameOrder, KeysFit}

-- a state of the set is the same but for its keys, which have the same order
pub record Has (set : State → Type 0) (s : State) : Type 0 where
  pub state : State
  pub among : set state
  pub same : IsSameOrder state s

-- the set has the initial state, and with each state the one after the turn of any processor; its keys are before those of
-- entry 0, as ranks are
pub record IsClosed (w : Work) (set : State → Type 0) : Type 0 where
  pub start : Has set (opening w)
  pub fits : (x : State) → set x → KeysFit 0 x
  pub turns : (x : State) → set x → (c : CpuId) (e : Event) → next w x c (serial_hints w x c) ≡ Some e → Has set (after w x 0 c e)
