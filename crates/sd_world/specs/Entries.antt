-- One entry more.
-- Source: this project's own.
use Rattle.std.specs.Prelude.{◌≡◌, ◌+◌, ◌<◌, true, List, [], ◌∷◌, ◌++◌, length, set, Option, Some}
use Rattle.sd_types.specs.declared.events.Entry.{Entry}
use Rattle.sd_types.specs.declared.events.Event.{Event}
use Rattle.sd_types.specs.declared.events.Hints.{Hints}
use Rattle.sd_types.specs.declared.works.Work.{Work}
use Rattle.sd_machine.specs.Events.{after, next}
use Rattle.sd_machine.specs.Runs.{IsRun, final_state}
use Rattle.sd_store.specs.declared.parts.Part.{Part}
use Rattle.sd_store.specs.Parts.{IsAmong}
use Rattle.sd_step.specs.Touched.{after_parts}
use Rattle.sd_hand.specs.declared.acting.Acting.{Acting}
use Rattle.sd_hand.specs.declared.acting.Actor.{Actor}
use Rattle.sd_hand.specs.Acting.{IsShown, has_part}
use Rattle.sd_types.specs.Limits.{most_entries}

-- the event comes next after the entries, and the hand stands for the state and has all that it touches
pub record CanEnter (w : Work) (x : Acting) (actors : List Actor) (es : List Entry) (e : Event) (hints : Option Hints) : Type 0 where
  pub run : IsRun w es
  pub few : length es < most_entries
  pub shown : IsShown x (length es) (final_state w es)
  pub next : next w (final_state w es) x.actor.cpu hints ≡ Some e
  pub holds : (p : Part) → IsAmong p (after_parts w (final_state w es) x.actor.cpu e) → has_part x p ≡ true
  pub there : x.actor.cpu.0 < length actors

-- the hand stands for the state after the entry and has the parts that it had, the list has the processor's count and duty, and the log
-- has the entry
pub record Enters (w : Work) (x y : Acting) (before others : List Actor) (es more : List Entry) (e : Event) (hints : Option Hints) : Type 0 where
  pub shown : IsShown y (length es + 1) (after w (final_state w es) (length es) x.actor.cpu e)
  pub has : has_part y ≡ has_part x
  pub actors : others ≡ set before x.actor.cpu.0 y.actor
  pub entries : more ≡ es ++ record { number = length es; cpu = x.actor.cpu; event = e; hints = hints } ∷ []
