-- Homes in which none of the parts lies that an event touches.
-- Source: this project's own.
use Rattle.std.specs.Prelude.{◌≡◌, ◌≢◌, ℕ, ◌+◌, List, Option, Some}
use Rattle.sd_types.specs.declared.numbers.CpuId.{CpuId}
use Rattle.sd_types.specs.declared.events.Event.{Event}
use Rattle.sd_types.specs.declared.events.Hints.{Hints}
use Rattle.sd_types.specs.declared.works.Work.{Work}
use Rattle.sd_state.specs.declared.states.State.{State}
use Rattle.sd_machine.specs.Events.{after, next}
use Rattle.sd_machine.specs.Runs.{IsReached}
use Rattle.sd_store.specs.declared.parts.Part.{Part}
use Rattle.sd_store.specs.Parts.{IsAmong}
use Rattle.sd_step.specs.Touched.{after_parts}
use Rattle.sd_homes.specs.declared.home.Home.{Home}
use Rattle.sd_homes.specs.Families.{home_id}
use Rattle.sd_hand.specs.Frames.{Stays}
use Rattle.sd_footprint.specs.Homes.{home_in}

-- no part lies in it
abbrev pub IsElsewhere : State → List Part → Home → Type 0
IsElsewhere s parts h = (p : Part) → IsAmong p parts → home_in s p ≢ Some (home_id h)

-- in every state of every run, whatever home it is: it stands for its part of the state after the event as it did before
abbrev pub EventsLeaveOtherHomes : Type 0
EventsLeaveOtherHomes = (w : Work) (n : ℕ) (s : State) (c : CpuId) (hints : Option Hints) (e : Event) (h : Home)
    → IsReached w n s → next w s c hints ≡ Some e → IsElsewhere s (after_parts w s c e) h → Stays n (n + 1) s (after w s n c e) h
