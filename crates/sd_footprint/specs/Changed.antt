-- What an event changes of a state, by the parts that it touches.
-- Source: this project's own.
use Rattle.std.specs.Prelude.{◌≡◌, ℕ, ◌%◌, ◌⊎◌, List, Option, Some}
use Rattle.sd_types.specs.declared.numbers.CpuId.{CpuId}
use Rattle.sd_types.specs.declared.numbers.HomeId.{HomeId}
use Rattle.sd_types.specs.declared.numbers.HomeId.TheVariants as home
use Rattle.sd_types.specs.declared.events.Event.{Event}
use Rattle.sd_types.specs.declared.events.Hints.{Hints}
use Rattle.sd_types.specs.declared.works.Work.{Work}
use Rattle.sd_state.specs.declared.states.CpuState.{CpuState}
use Rattle.sd_state.specs.declared.states.Place.TheVariants.{Running}
use Rattle.sd_state.specs.declared.states.State.{State}
use Rattle.sd_state.specs.declared.states.ThreadState.{ThreadState}
use Rattle.sd_state.specs.States.{cpu_of, thread_of}
use Rattle.sd_machine.specs.Events.{after, next}
use Rattle.sd_machine.specs.Runs.{IsReached}
use Rattle.sd_machine.specs.Threads.{count_of, lock_of, open_of}
use Rattle.sd_store.specs.declared.parts.Part.{Part}
use Rattle.sd_store.specs.declared.parts.Part.TheVariants.{Actor, Home, Thread}
use Rattle.sd_store.specs.Parts.{IsAmong, view_of}
use Rattle.sd_step.specs.Touched.{after_parts}
use Rattle.sd_homes.specs.Standing.{home_of}

-- the home of this number is one of the parts
abbrev pub HasHome : List Part → HomeId → Type 0
HasHome parts h = IsAmong (Home h) parts

-- thread u is one of the parts, or the home is in which it stands
abbrev pub IsNamed : List Part → ℕ → ThreadState → Type 0
IsNamed parts u x = IsAmong (Thread (record { 0 = u })) parts ⊎ HasHome parts (home_of x)

-- where it runs, it ran last
abbrev pub RanThere : ThreadState → Type 0
RanThere x = (c : CpuId) → x.place ≡ Running c → x.body.last ≡ c

-- a thread that changes: it is named, and stands in the home in which it stood or in one that is among the parts
pub record MovesWithin (parts : List Part) (u : ℕ) (x y : ThreadState) : Type 0 where
  pub named : IsNamed parts u x
  pub home : (home_of y ≡ home_of x) ⊎ HasHome parts (home_of y)
  pub ran : RanThere x → RanThere y

-- a processor's count and duty
abbrev pub SameActor : CpuState → CpuState → Type 0
SameActor x y = (y.count ≡ x.count) × (y.duty ≡ x.duty)

-- what is not among the parts is as it was: threads, the marks, set and bindings of a processor, its count and duty, locks,
-- counts of channels, the open processors of a set
pub record ChangesOnly (parts : List Part) (s new : State) : Type 0 where
  pub threads : (u : ℕ) → (thread_of new u ≡ thread_of s u) ⊎ MovesWithin parts u (thread_of s u) (thread_of new u)
  pub cpus : (d : ℕ) → (view_of (cpu_of new d) ≡ view_of (cpu_of s d)) ⊎ HasHome parts (home.Cpu (record { 0 = d }))
  pub actors : (d : ℕ) → SameActor (cpu_of s d) (cpu_of new d) ⊎ IsAmong (Actor (record { 0 = d })) parts
  pub locks : (l : ℕ) → (lock_of new l ≡ lock_of s l) ⊎ HasHome parts (home.Chain (l % 64))
  pub chans : (k : ℕ) → (count_of new k ≡ count_of s k) ⊎ HasHome parts (home.Sleepers (k % 64))
  pub sets : (p : ℕ) → (open_of new p ≡ open_of s p) ⊎ HasHome parts (home.RealTime (record { 0 = p }))

-- in every state of every run each event that may come changes only what it touches
abbrev pub EventsChangeOnlyTheirs : Type 0
EventsChangeOnlyTheirs = (w : Work) (n : ℕ) (s : State) (c : CpuId) (hints : Option Hints) (e : Event)
    → IsReached w n s → next w s c hints ≡ Some e → ChangesOnly (after_parts w s c e) s (after w s n c e)

-- in every state of every run a thread that runs on a processor ran there last
abbrev pub RunnersRanThereLast : Type 0
RunnersRanThereLast = (w : Work) (n : ℕ) (s : State) (t : ℕ) → IsReached w n s → RanThere (thread_of s t)
