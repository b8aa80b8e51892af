-- The parts that the events of the dispatcher touch.
-- Source: this project's own.
use Rattle.std.specs.Prelude.{ℕ, List, [], ◌∷◌, ◌&&◌, ℤ, nat_le, Option, Some, None, is_none, if◌then◌else◌}
use Rattle.sd_types.specs.declared.numbers.CpuId.{CpuId}
use Rattle.sd_types.specs.declared.numbers.ThreadId.{ThreadId}
use Rattle.sd_types.specs.declared.events.Put.{Put}
use Rattle.sd_types.specs.declared.works.Work.{Work}
use Rattle.sd_types.specs.Priorities.{real_time_priority}
use Rattle.sd_state.specs.declared.states.Place.{Place}
use Rattle.sd_state.specs.declared.states.Place.TheVariants.{Running, Queued, RealTime}
use Rattle.sd_state.specs.declared.states.State.{State}
use Rattle.sd_state.specs.States.{set_of}
use Rattle.sd_store.specs.declared.parts.Part.{Part}
use Rattle.sd_store.specs.Parts.{actor_part, cpu_part, put_parts, ready_parts, real_time_part, thread_part}

abbrev pub put_parts_if : Work → ThreadId → Option Put → List Part
put_parts_if w t None = []
put_parts_if w t (Some at) = put_parts w t at

-- a thread whose priority has changed where it stands
abbrev pub reordered_parts : Work → State → ThreadId → Option Put → Place → List Part
reordered_parts w s t at (Running d) = thread_part t ∷ ready_parts s d
reordered_parts w s t at _ = thread_part t ∷ put_parts_if w t at

-- a thread that leaves its processor for a queue: it takes the count of ticks along
abbrev pub leaving_parts : Work → ThreadId → CpuId → List Part
leaving_parts w t c = thread_part t ∷ actor_part c ∷ cpu_part c ∷ real_time_part (set_of w t.0) ∷ []

-- the queue of a thread of priority p that has been on processor c: `queue_place` by priority and binding
abbrev pub queue_for : Work → ℕ → CpuId → ℤ → ℕ → Option CpuId → Place
queue_for w t c key p bound = if nat_le real_time_priority p && is_none bound then RealTime (set_of w t) key else Queued c key

-- the processor from which a thread is stolen
abbrev pub victim_parts : Option CpuId → List Part
victim_parts None = []
victim_parts (Some v) = cpu_part v ∷ []
