-- The plan of a duty, the parts that it looks at, and its end, by the duty without its key.
-- Source: this project's own.
use Rattle.std.specs.Prelude.{List, [], ◌∷◌, Option, Some, None, if◌then◌else◌}
use Rattle.sd_types.specs.declared.numbers.CpuId.{CpuId}
use Rattle.sd_types.specs.declared.numbers.Side.TheVariants.{Writer, Reader}
use Rattle.sd_types.specs.declared.events.Duty.TheVariants as duty
use Rattle.sd_types.specs.declared.events.Event.{Event}
use Rattle.sd_types.specs.declared.works.Work.{Work}
use Rattle.sd_state.specs.declared.states.State.{State}
use Rattle.sd_machine.specs.declared.plans.Plan.{Plan}
use Rattle.sd_machine.specs.Changes.{set_duty}
use Rattle.sd_machine.specs.Events.{keeps_ageing}
use Rattle.sd_machine.specs.Locking.{grant_reader_plan, grant_writer_plan, unblock_plan}
use Rattle.sd_machine.specs.Prioritising.{age_plan}
use Rattle.sd_machine.specs.Sleeping.{rouse_plan}
use Rattle.sd_machine.specs.Threads.{best_waiter, lock_of, next_to_age}
use Rattle.sd_machine.specs.Walking.{walk_plan}
use Rattle.sd_store.specs.declared.parts.Part.{Part}
use Rattle.sd_store.specs.declared.spots.Task.{Task}
use Rattle.sd_store.specs.declared.spots.Task.TheVariants as task
use Rattle.sd_store.specs.Parts.{chain_part, owner_parts, sleepers_part}
use Rattle.sd_store.specs.Walks.{next_to_rouse}

abbrev pub task_plan : Work → State → CpuId → Task → Option Plan
task_plan w s c task.Nothing = None
task_plan w s c (task.Walk l seek) = Some (walk_plan s l (lock_of s l.0))
task_plan w s c (task.WakeMutex l) = unblock_plan w s l (best_waiter s l.0 Writer)
task_plan w s c (task.GrantWriter l) = grant_writer_plan w s l (best_waiter s l.0 Writer)
task_plan w s c (task.GrantReaders l) = Some (grant_reader_plan w s l (best_waiter s l.0 Reader))
task_plan w s c (task.Rouse k) = Some (rouse_plan w s k (next_to_rouse s c k))
task_plan w s c (task.Age u) = None

abbrev pub task_ageing : Work → State → CpuId → Task → Option Plan
task_ageing w s c (task.Age u) = age_plan w s (next_to_age s c.0 u.0)
task_ageing w s c _ = None

abbrev pub task_parts : State → Task → List Part → List Part
task_parts s task.Nothing rest = rest
task_parts s (task.Walk l seek) rest = chain_part l ∷ owner_parts (lock_of s l.0)
task_parts s (task.WakeMutex l) rest = chain_part l ∷ rest
task_parts s (task.GrantWriter l) rest = chain_part l ∷ rest
task_parts s (task.GrantReaders l) rest = chain_part l ∷ []
task_parts s (task.Rouse k) rest = sleepers_part k ∷ []
task_parts s (task.Age u) rest = rest

-- the state in which the ageing is dropped that ends with an event
abbrev pub task_dropped : State → CpuId → Event → Task → State
task_dropped s c e (task.Age u) = if keeps_ageing e then s else set_duty s c.0 duty.Nothing
task_dropped s c e _ = s
