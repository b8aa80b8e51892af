-- The parts that a walk along a chain of owners touches.
-- Source: this project's own.
use Rattle.std.specs.Prelude.{List, [], ◌∷◌, Option}
use Rattle.sd_types.specs.declared.numbers.CpuId.{CpuId}
use Rattle.sd_types.specs.declared.numbers.LockId.{LockId}
use Rattle.sd_types.specs.declared.numbers.ThreadId.{ThreadId}
use Rattle.sd_types.specs.declared.events.Put.{Put}
use Rattle.sd_types.specs.declared.works.Work.{Work}
use Rattle.sd_state.specs.declared.states.LockState.{LockState}
use Rattle.sd_state.specs.declared.states.State.{State}
use Rattle.sd_state.specs.States.{thread_of}
use Rattle.sd_dispatcher.specs.Touched.{reordered_parts}
use Rattle.sd_store.specs.declared.parts.Part.{Part}
use Rattle.sd_store.specs.Parts.{actor_part, chain_part, owner_parts, thread_part}

-- what the walk reads at a lock: the waiters and the owner
abbrev pub walk_parts : LockId → LockState → List Part
walk_parts l lock = chain_part l ∷ owner_parts lock

-- the duty of the processor, the waiters of the lock, and the owner
abbrev pub walked_parts : CpuId → LockId → ThreadId → List Part
walked_parts c l o = actor_part c ∷ chain_part l ∷ thread_part o ∷ []

-- the same, and what the owner touches that moves where it stands
abbrev pub willed_parts : Work → State → CpuId → LockId → ThreadId → Option Put → List Part
willed_parts w s c l o at = actor_part c ∷ chain_part l ∷ reordered_parts w s o at (thread_of s o.0).place
