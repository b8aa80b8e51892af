-- That the parts which a turn looks at or touches are there, and the homes in which threads stand.
-- Source: this project's own.
use Rattle.std.specs.Prelude.{◌≡◌, ℕ, ◌<◌, length, Option, Some}
use Rattle.sd_types.specs.declared.numbers.CpuId.{CpuId}
use Rattle.sd_types.specs.declared.events.Event.{Event}
use Rattle.sd_types.specs.declared.events.Hints.{Hints}
use Rattle.sd_types.specs.declared.works.Work.{Work}
use Rattle.sd_state.specs.declared.states.State.{State}
use Rattle.sd_state.specs.declared.states.ThreadState.{ThreadState}
use Rattle.sd_state.specs.States.{thread_of}
use Rattle.sd_machine.specs.Events.{next}
use Rattle.sd_machine.specs.Runs.{IsReached}
use Rattle.sd_homes.specs.Numbers.{IsHomeOf, IsListOf}
use Rattle.sd_homes.specs.Standing.{home_of, list_of}
use Rattle.sd_step.specs.Needed.{needed, next_parts, reads_parts}
use Rattle.sd_step.specs.Touched.{after_parts}
use Rattle.sd_store.specs.declared.parts.Part.{Part}
use Rattle.sd_store.specs.declared.parts.Part.TheVariants.{Home, Thread, Actor}
use Rattle.sd_store.specs.Parts.{IsAmong}

-- the part is there: its home is one of the state's, its thread one of its threads; of the counts and duties it is processor c's own
abbrev pub IsPartThere : State → CpuId → Part → Type 0
IsPartThere s c (Home k) = IsHomeOf s k
IsPartThere s c (Thread t) = t.0 < length s.threads
IsPartThere s c (Actor d) = d ≡ c

-- each part is there that processor c looks at to find what it reads, its event, and whether it may make it; and that the event touches
-- which it may make
pub record PartsAreThere (w : Work) (s : State) (c : CpuId) (hints : Option Hints) : Type 0 where
  pub reading : (p : Part) → IsAmong p (reads_parts w s c) → IsPartThere s c p
  pub wishing : (p : Part) → IsAmong p (needed w s c hints) → IsPartThere s c p
  pub making : (p : Part) → IsAmong p (next_parts w s c hints) → IsPartThere s c p
  pub touching : (e : Event) → next w s c hints ≡ Some e → (p : Part) → IsAmong p (after_parts w s c e) → IsPartThere s c p

-- in every state of every run, for each processor of the workload, whatever it has read
abbrev pub PartsOfTurnsAreThere : Type 0
PartsOfTurnsAreThere = (w : Work) (n : ℕ) (s : State) (c : CpuId) (hints : Option Hints) → IsReached w n s → c.0 < w.cpus → PartsAreThere w s c hints

-- the home and the list in which a thread stands are the state's, and the processor is on which it ran last
pub record StandsThere (s : State) (x : ThreadState) : Type 0 where
  pub home : IsHomeOf s (home_of x)
  pub list : IsListOf s (list_of x)
  pub last : x.body.last.0 < length s.cpus

-- in every state of every run
abbrev pub ThreadsStandThere : Type 0
ThreadsStandThere = (w : Work) (n : ℕ) (s : State) (t : ℕ) → IsReached w n s → StandsThere s (thread_of s t)
