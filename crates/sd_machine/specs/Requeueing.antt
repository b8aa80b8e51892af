-- A thread whose effective priority has changed where it stands.
-- Source: Solaris Internals (thread_change_pri).
--
-- Why: a dispatch queue has a list for each priority, so a queued thread has to leave its list for another. Elsewhere nothing
-- moves: a running thread runs on, but one whose priority fell may now be below what is ready, so its processor looks again
-- and may get a mark; who sleeps or waits for a lock is found by its priority when it is woken.
--
-- For example, a thread with 29 on the queue of processor 2 inherits 59: it goes behind the others of 59 on the same queue. With
-- 105 it goes to a real-time queue, and a processor is chosen for it anew; if it is bound to processor 2, it goes behind the
-- others of 105 there. A thread on a real-time queue is placed anew whatever its new priority.
use Rattle.std.specs.Prelude.{ℕ, Bool, false, ◌||◌, nat_lt, ◌==◌, Option, Some, None, if◌then◌else◌}
use Rattle.sd_types.specs.declared.numbers.CpuId.{CpuId}
use Rattle.sd_types.specs.declared.events.Event.{Event}
use Rattle.sd_types.specs.declared.events.Put.{Put}
use Rattle.sd_types.specs.declared.events.Put.TheVariants.{Cpu}
use Rattle.sd_types.specs.declared.works.Work.{Work}
use Rattle.sd_machine.specs.declared.plans.Plan.{Plan}
use Rattle.sd_machine.specs.declared.plans.Plan.TheVariants.{Make, Place as PlaceIt}
use Rattle.sd_machine.specs.declared.plans.Placement.{Placement}
use Rattle.sd_machine.specs.declared.plans.Requeue.{Requeue}
use Rattle.sd_machine.specs.declared.plans.Requeue.TheVariants.{Stays, Behind, Anew}
use Rattle.sd_types.specs.Priorities.{real_time_priority}
use Rattle.sd_state.specs.declared.states.Place.{Place}
use Rattle.sd_state.specs.declared.states.Place.TheVariants.{Running, Queued, RealTime}
use Rattle.sd_state.specs.declared.states.State.{State}
use Rattle.sd_state.specs.States.{thread_of, eff_of}
use Rattle.sd_machine.specs.Changes.{put_where, remark}

abbrev pub is_bound_to : CpuId → Option CpuId → Bool
is_bound_to d None = false
is_bound_to d (Some e) = e.0 == d.0

-- on a processor's queue it goes to the back of that one where its new priority is below 100, or it is bound there
abbrev pub requeue_at : Place → ℕ → Option CpuId → Requeue
requeue_at (Queued d k) p bound = if nat_lt p real_time_priority || is_bound_to d bound then Behind d else Anew
requeue_at (RealTime q k) p bound = Anew
requeue_at _ p bound = Stays

abbrev pub requeue : Place → ℕ → ℕ → Option CpuId → Requeue
requeue place old new bound = if old == new then Stays else requeue_at place new bound

-- the plan of an event that tells where a thread went: what it is with a put, and as a placement
abbrev pub requeue_plan : Requeue → (Option Put → Event) → Placement → ℕ → Plan
requeue_plan Stays event placement p = Make (event None)
requeue_plan (Behind d) event placement p = Make (event (Some (Cpu d)))
requeue_plan Anew event placement p = PlaceIt placement p

-- by entry n, where thread t had an effective priority and now has its own: a running one may have a smaller one than what is
-- ready, and a queued one goes where the event says
abbrev pub reordered_at : Work → State → ℕ → ℕ → ℕ → Option Put → Place → State
reordered_at w s n t old at (Running x) = if nat_lt (eff_of s t) old then remark s x.0 else s
reordered_at w s n t old at _ = put_where w s n t at

unfoldable pub reordered : Work → State → ℕ → ℕ → ℕ → Option Put → State
reordered w s n t old at = reordered_at w s n t old at (thread_of s t).place
