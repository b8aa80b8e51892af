-- The parts that a change of class parameters touches, and what it needs of the place of the thread.
-- Source: this project's own.
use Rattle.std.specs.Prelude.{◌≡◌, List, [], ◌∷◌, Option, None, ⊤}
use Rattle.sd_types.specs.declared.numbers.CpuId.{CpuId}
use Rattle.sd_types.specs.declared.numbers.ThreadId.{ThreadId}
use Rattle.sd_types.specs.declared.events.PrioAnswer.{PrioAnswer}
use Rattle.sd_types.specs.declared.events.PrioAnswer.TheVariants.{Changed, Refused}
use Rattle.sd_types.specs.declared.events.Put.{Put}
use Rattle.sd_types.specs.declared.works.Work.{Work}
use Rattle.sd_state.specs.declared.states.Place.{Place}
use Rattle.sd_state.specs.declared.states.Place.TheVariants.{Waiting}
use Rattle.sd_state.specs.declared.states.State.{State}
use Rattle.sd_state.specs.States.{thread_of}
use Rattle.sd_dispatcher.specs.Touched.{reordered_parts}
use Rattle.sd_store.specs.declared.parts.Part.{Part}
use Rattle.sd_store.specs.Parts.{actor_part, thread_part}

-- a thread that waits for a lock goes on waiting there
abbrev pub KeepsWaiting : Place → Option Put → Type 0
KeepsWaiting (Waiting l side k) at = at ≡ None
KeepsWaiting _ at = ⊤

-- the thread with what it touches where its priority changes, and the duty by which it hands its priority on
abbrev pub changed_parts : Work → State → CpuId → ThreadId → Option Put → List Part
changed_parts w s c u at = actor_part c ∷ thread_part u ∷ reordered_parts w s u at (thread_of s u.0).place

abbrev pub prio_parts : Work → State → CpuId → ThreadId → PrioAnswer → List Part
prio_parts w s c u (Changed p at) = changed_parts w s c u at
prio_parts w s c u (Refused denied) = []
