-- Condition variables and semaphores: cvwait, semap, semawait, semav.
-- Source: Solaris Internals (cv_wait, sema_p, sema_v); that a semaphore is handed to its best sleeper directly is this
-- project's own.
use Rattle.std.specs.Prelude.{ℕ, ◌+◌, ◌-◌, Bool, nat_le, Option, Some, None, if◌then◌else◌}
use Rattle.sd_types.specs.declared.numbers.ChanId.{ChanId}
use Rattle.sd_types.specs.declared.numbers.CpuId.{CpuId}
use Rattle.sd_types.specs.declared.numbers.LockId.{LockId}
use Rattle.sd_types.specs.declared.events.Event.{Event}
use Rattle.sd_types.specs.declared.events.Event.TheVariants as event
use Rattle.sd_types.specs.declared.events.Put.{Put}
use Rattle.sd_types.specs.declared.works.Work.{Work}
use Rattle.sd_machine.specs.declared.plans.Plan.{Plan}
use Rattle.sd_machine.specs.declared.plans.Plan.TheVariants.{Make, Place as PlaceIt}
use Rattle.sd_machine.specs.declared.plans.Placement.TheVariants as placement
use Rattle.sd_state.specs.declared.states.State.{State}
use Rattle.sd_machine.specs.Threads.{thread_id, count_of, with_count}
use Rattle.sd_machine.specs.Changes.{finish_op}
use Rattle.sd_machine.specs.Sleeping.{woken, woken_priority, fallen_asleep}
use Rattle.sd_machine.specs.Locking.{released}

-- the mutex is given up and the thread asleep in one entry; the operation that follows takes the mutex again
unfoldable pub cv_waited : Work → State → ℕ → CpuId → ℕ → ChanId → LockId → State
cv_waited w s n c t k l = fallen_asleep w (released w s c t l) n c t k

-- where a token is there it is taken, else the thread falls asleep until one is handed to it
abbrev pub sema_p_if : Bool → ℕ → ChanId → Event
sema_p_if there t k = if there then event.SemaP (thread_id t) k else event.SemaWait (thread_id t) k

abbrev pub sema_p_event : State → ℕ → ChanId → Event
sema_p_event s t k = sema_p_if (nat_le 1 (count_of s k.0)) t k

unfoldable pub sema_taken : Work → State → ℕ → ChanId → State
sema_taken w s t k = finish_op w (with_count s k.0 (count_of s k.0 - 1)) t

-- a semaphore goes to its best sleeper, and is counted up where nobody sleeps
abbrev pub sema_v_plan : Work → State → ℕ → ChanId → Option ℕ → Plan
sema_v_plan w s t k None = Make (event.SemaVCount (thread_id t) k (count_of s k.0 + 1))
sema_v_plan w s t k (Some u) = PlaceIt (placement.SemaVWake (thread_id t) k (thread_id u)) (woken_priority w s u)

unfoldable pub sema_counted : Work → State → ℕ → ChanId → State
sema_counted w s t k = finish_op w (with_count s k.0 (count_of s k.0 + 1)) t

unfoldable pub sema_handed : Work → State → ℕ → ℕ → ℕ → Put → State
sema_handed w s n t u at = finish_op w (woken w s n u at) t
