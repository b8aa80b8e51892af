-- In which homes the parts lie that a processor looks at.
-- Source: this project's own; the homes are the dispatch queues, the chains of turnstiles and those of sleepers of Solaris
-- Internals.
use Rattle.std.specs.Prelude.{◌≡◌, ℕ, ◌≤◌, ◌⊎◌, List, [], ◌∷◌, length, Option, Some, None}
use Rattle.sd_types.specs.declared.numbers.CpuId.{CpuId}
use Rattle.sd_types.specs.declared.numbers.HomeId.{HomeId}
use Rattle.sd_types.specs.declared.events.Hints.{Hints}
use Rattle.sd_types.specs.declared.works.Work.{Work}
use Rattle.sd_state.specs.declared.states.State.{State}
use Rattle.sd_state.specs.States.{thread_of}
use Rattle.sd_machine.specs.Events.{wish}
use Rattle.sd_machine.specs.Runs.{IsReached}
use Rattle.sd_homes.specs.Standing.{home_of}
use Rattle.sd_step.specs.Needed.{needed, next_parts, reads_parts}
use Rattle.sd_step.specs.Touched.{after_parts}
use Rattle.sd_store.specs.declared.parts.Part.{Part}
use Rattle.sd_store.specs.declared.parts.Part.TheVariants.{Home, Thread, Actor}
use Rattle.sd_store.specs.Parts.{IsAmong, actor_part}

-- the home in which a part lies: the count and the duty of a processor lie in none
abbrev pub home_in : State → Part → Option HomeId
home_in s (Home h) = Some h
home_in s (Thread t) = Some (home_of (thread_of s t.0))
home_in s (Actor d) = None

-- one of the homes
abbrev pub IsOneOf : Option HomeId → List HomeId → Type 0
IsOneOf x [] = ⊥
IsOneOf x (h ∷ hs) = (x ≡ Some h) ⊎ IsOneOf x hs

-- the part is the count and the duty of processor c, or lies in one of the homes
abbrev pub LiesIn : State → CpuId → List HomeId → Part → Type 0
LiesIn s c homes p = (p ≡ actor_part c) ⊎ IsOneOf (home_in s p) homes

-- at most four homes hold all that processor c looks at to find what it reads, its event, and whether it may make it
pub record NeedsFour (w : Work) (s : State) (c : CpuId) (hints : Option Hints) : Type 0 where
  pub homes : List HomeId
  pub few : length homes ≤ 4
  pub reading : (p : Part) → IsAmong p (reads_parts w s c) → LiesIn s c homes p
  pub wishing : (p : Part) → IsAmong p (needed w s c hints) → LiesIn s c homes p
  pub making : (p : Part) → IsAmong p (next_parts w s c hints) → LiesIn s c homes p

-- at most four homes hold all that, and all that its event touches
pub record TakesFour (w : Work) (s : State) (c : CpuId) (hints : Option Hints) : Type 0 where
  pub needs : NeedsFour w s c hints
  pub touching : (p : Part) → IsAmong p (after_parts w s c (wish w s c.0 hints)) → LiesIn s c needs.homes p

-- in every state of every run, whatever the processor has read
abbrev pub TurnsTakeFour : Type 0
TurnsTakeFour = (w : Work) (n : ℕ) (s : State) (c : CpuId) (hints : Option Hints) → IsReached w n s → TakesFour w s c hints
