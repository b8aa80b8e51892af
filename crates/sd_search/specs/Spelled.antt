-- The run that a list of processors spells, each of which has its turn: how a search finds a state again from its predecessors.
-- Source: this project's own.
use Rattle.std.specs.Prelude.{◌≡◌, List, [], ◌∷◌, length, Some}
use Rattle.sd_types.specs.declared.numbers.CpuId.{CpuId}
use Rattle.sd_types.specs.declared.events.Event.{Event}
use Rattle.sd_types.specs.declared.works.Work.{Work}
use Rattle.sd_state.specs.declared.states.State.{State}
use Rattle.sd_state.specs.Opening.{opening}
use Rattle.sd_machine.specs.Events.{after, next}
use Rattle.sd_machine.specs.Runs.{IsRun, final, round, serial_hints, IsFresh}
use Rattle.sd_encoding.specs.Order.{IsSameOrder, KeysFit}

-- from x the turn of processor c leads to y, up to the order of keys
pub record IsTurn (w : Work) (x : State) (c : CpuId) (y : State) : Type 0 where
  pub event : Event
  pub makes : next w x c (serial_hints w x c) ≡ Some event
  pub leads : IsSameOrder y (after w x 0 c event)
  pub fits : KeysFit 0 y

-- from x the turns of these processors, one after another, lead to y
unfoldable pub Leads : Work → State → List CpuId → State → Type 0
Leads w x [] y = IsSameOrder x y
Leads w x (c ∷ cs) y = (z : State) × IsTurn w x c z × Leads w z cs y

-- the run in which each of these processors has its turn, from the initial state: each makes one entry, with the numbers of the
-- state as its hints, and at the end the keys have the order that they have in y
pub record IsSpelled (w : Work) (cs : List CpuId) (y : State) : Type 0 where
  pub run : IsRun w (round w (opening w) 0 cs)
  pub fresh : IsFresh w (opening w) (round w (opening w) 0 cs)
  pub many : length (round w (opening w) 0 cs) ≡ length cs
  pub ends : IsSameOrder y (final w (opening w) (round w (opening w) 0 cs))
