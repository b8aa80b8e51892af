-- The parts that a binding touches.
-- Source: this project's own.
use Rattle.std.specs.Prelude.{List, [], ◌∷◌, ◌++◌, Option, Some, None}
use Rattle.sd_types.specs.declared.numbers.CpuId.{CpuId}
use Rattle.sd_types.specs.declared.numbers.ThreadId.{ThreadId}
use Rattle.sd_types.specs.declared.events.BindAnswer.{BindAnswer}
use Rattle.sd_types.specs.declared.events.BindAnswer.TheVariants.{Changed}
use Rattle.sd_types.specs.declared.works.Work.{Work}
use Rattle.sd_state.specs.declared.states.Place.{Place}
use Rattle.sd_state.specs.declared.states.Place.TheVariants.{Running}
use Rattle.sd_state.specs.declared.states.State.{State}
use Rattle.sd_state.specs.States.{thread_of}
use Rattle.sd_dispatcher.specs.Touched.{put_parts_if}
use Rattle.sd_store.specs.declared.parts.Part.{Part}
use Rattle.sd_store.specs.Parts.{bound_parts, cpu_part, thread_part}

-- the processor on which a thread runs
abbrev pub runs_parts : Place → List Part
runs_parts (Running c) = cpu_part c ∷ []
runs_parts _ = []

-- the processor to which a thread is bound, with the one on which it runs; or the one to which it was bound
abbrev pub rebound_parts : State → ThreadId → Option CpuId → List Part
rebound_parts s u (Some d) = cpu_part d ∷ runs_parts (thread_of s u.0).place
rebound_parts s u None = bound_parts (thread_of s u.0).body.bound

abbrev pub bind_parts : Work → State → ThreadId → Option CpuId → BindAnswer → List Part
bind_parts w s u d (Changed at) = thread_part u ∷ (rebound_parts s u d ++ put_parts_if w u at)
bind_parts w s u d _ = []
