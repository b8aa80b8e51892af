-- Threads that run on a processor and leave it: tick, spin, idle, dispatch, steal, preempt, yield, done.
-- Source: Solaris Internals (clock_tick, disp, preempt, yield), ts_dptbl(4); that a thread which holds a lock is in the
-- kernel is this project's own.
use Rattle.std.specs.Prelude.{ℕ, Bool, false, not, ◌&&◌, ◌||◌, length, nat_le, ◌==◌, Option, Some, None, if◌then◌else◌}
use Rattle.sd_types.specs.declared.numbers.CpuId.{CpuId}
use Rattle.sd_types.specs.declared.bodies.ThreadBody.{ThreadBody}
use Rattle.sd_types.specs.declared.events.End.{End}
use Rattle.sd_types.specs.declared.events.Event.{Event}
use Rattle.sd_types.specs.declared.events.Event.TheVariants as event
use Rattle.sd_types.specs.declared.works.Work.{Work}
use Rattle.sd_rules.specs.ClassRules.{class_expires, class_requeue, end_of}
use Rattle.sd_machine.specs.declared.plans.Plan.{Plan}
use Rattle.sd_machine.specs.declared.plans.Plan.TheVariants.{Make, Search}
use Rattle.sd_state.specs.declared.states.Place.TheVariants.{Queued, Ended}
use Rattle.sd_state.specs.declared.states.CpuState.{CpuState}
use Rattle.sd_state.specs.declared.states.State.{State}
use Rattle.sd_state.specs.States.{thread_of, eff_of}
use Rattle.sd_machine.specs.Threads.{thread_id, is_sys, best_ready, best_unbound, priority_of}
use Rattle.sd_machine.specs.Bodies.{ticked_class}
use Rattle.sd_machine.specs.Changes.{back_key, key_at, finish_op, run_tick, set_class, send_back, count_tick, clear_marks, set_mark, mark_over, priority_or_zero, run_on, leave, queue_place}

-- When they come.

-- the running thread has to leave: the kernel's mark is set, or the user's where the thread is not in the kernel,
-- as a system thread and one that holds a lock are
abbrev pub must_leave : CpuState → ThreadBody → Bool
must_leave x b = x.kernel || (x.user && not (is_sys b.class) && (length b.held.items == 0))

-- a bound thread goes to its own processor; another to the back where its quantum has expired, else to the front
abbrev pub leave_event : ℕ → ℕ → ThreadBody → Option CpuId → Event
leave_event c t b None = event.Preempt (thread_id t) (end_of b.back)
leave_event c t b (Some d) = if d.0 == c then event.Preempt (thread_id t) (end_of b.back) else event.Away (thread_id t) d

abbrev pub leave_plan : ℕ → CpuState → ℕ → ThreadBody → Option Plan
leave_plan c x t b = if must_leave x b then Some (Make (leave_event c t b b.bound)) else None

-- where no thread runs: the best that is ready, else a search
abbrev pub dispatch_plan : State → Option ℕ → Plan
dispatch_plan s None = Search
dispatch_plan s (Some t) = Make (event.Dispatch (thread_id t) (eff_of s t))

-- what a search comes to: the best thread on the victim's queue that is not bound is stolen
abbrev pub steal_event : State → CpuId → Option ℕ → Event
steal_event s v None = event.Idle
steal_event s v (Some t) = event.Steal v (thread_id t) (eff_of s t)

abbrev pub search_event : State → Option CpuId → Event
search_event s None = event.Idle
search_event s (Some v) = steal_event s v (best_unbound s v.0)

-- What they do.

-- the running thread's quantum has expired, and something that is ready has at least its new priority
abbrev pub is_rivalled : Bool → ℕ → Option ℕ → Bool
is_rivalled expired p None = false
is_rivalled expired p (Some m) = expired && nat_le p m

-- then it is to go to the back of its queue, and the processor is marked
unfoldable pub charge : State → ℕ → ℕ → Bool → State
charge s c t expired =
    if is_rivalled expired (eff_of s t) (priority_of s (best_ready s c))
    then set_mark (send_back s t) c (priority_or_zero (priority_of s (best_ready s c))) else s

-- the class of thread t counts a tick
abbrev pub class_counts : Work → State → ℕ → ℕ → State
class_counts w s c t = charge (set_class s t (ticked_class w (thread_of s t).body.class)) c t (class_expires (thread_of s t).body.class)

unfoldable pub ticked : Work → State → ℕ → ℕ → State
ticked w s c t = class_counts w (run_tick w (count_tick w s c) t) c t

unfoldable pub spun : Work → State → ℕ → ℕ → State
spun w s c t = class_counts w (count_tick w s c) c t

unfoldable pub idled : Work → State → ℕ → State
idled w s c = count_tick w s c

unfoldable pub dispatched : State → CpuId → ℕ → State
dispatched s c t = run_on (clear_marks s c.0) t c

unfoldable pub stolen : State → CpuId → ℕ → State
stolen s c t = run_on s t c

-- by entry n, to an end of the queue of its priority; at the back a time-sharing thread has waited no second
unfoldable pub preempted : Work → State → ℕ → CpuId → ℕ → End → State
preempted w s n c t end =
    leave (set_class s t (class_requeue (thread_of s t).body.back (thread_of s t).body.class))
    c.0 t (queue_place w t c (key_at n end) (thread_of s t).body)

-- to the back of the queue of the processor to which it is bound
unfoldable pub sent_away : State → ℕ → CpuId → ℕ → CpuId → State
sent_away s n c t d = mark_over (leave s c.0 t (Queued d (back_key n))) d.0 (eff_of s t)

unfoldable pub yielded : Work → State → ℕ → CpuId → ℕ → State
yielded w s n c t = finish_op w (leave s c.0 t (queue_place w t c (back_key n) (thread_of s t).body)) t

unfoldable pub done : State → CpuId → ℕ → State
done s c t = leave s c.0 t Ended
