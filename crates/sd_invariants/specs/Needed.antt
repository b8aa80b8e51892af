-- What an event needs of the state in which it happens is there.
use Rattle.std.specs.Prelude.{◌≡◌, ℕ, ◌<◌, Option, Some}
use Rattle.sd_types.specs.declared.numbers.CpuId.{CpuId}
use Rattle.sd_types.specs.declared.events.Event.{Event}
use Rattle.sd_types.specs.declared.events.Hints.{Hints}
use Rattle.sd_types.specs.declared.works.Work.{Work}
use Rattle.sd_state.specs.declared.states.State.{State}
use Rattle.sd_machine.specs.Events.{next}
use Rattle.sd_machine.specs.Needs.{Needs}
use Rattle.sd_machine.specs.Runs.{IsReached}

-- a processor that may make an event in a state of a run is there, and the event has what it needs; a count of tokens rises in 32 bits since it began with 16
abbrev pub EventsHaveWhatTheyNeed : Type 0
EventsHaveWhatTheyNeed =
    (w : Work) (n : ℕ) (s : State) (c : CpuId) (hints : Option Hints) (e : Event) → IsReached w n s → next w s c hints ≡ Some e
    → (c.0 < w.cpus) × Needs w s c e
