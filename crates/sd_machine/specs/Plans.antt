-- The order in which a processor takes its events: what it is about to do, by the first of six tries that gives anything.
-- 1. its duty; 2. a nap that is over; 3. the ageing of its queue; 4. a running thread that has to leave; 5. with no
-- thread running: what a closing processor does, or a dispatch, or a search; 6. the running thread's operation.
-- Source: Solaris Internals (swtch, the clock's tick, preemption); this order is this project's own.
use Rattle.std.specs.Prelude.{ℕ, Option, Some, None}
use Rattle.sd_types.specs.declared.numbers.SetId.{SetId}
use Rattle.sd_types.specs.declared.numbers.Side.TheVariants.{Writer, Reader}
use Rattle.sd_types.specs.declared.events.Duty.{Duty}
use Rattle.sd_types.specs.declared.events.Duty.TheVariants.{Nothing, Walk, WakeMutex, GrantWriter, GrantReaders, Rouse, Age}
use Rattle.sd_types.specs.declared.events.Event.TheVariants as event
use Rattle.sd_types.specs.declared.scripts.Op.{Op}
use Rattle.sd_types.specs.declared.scripts.Op.TheVariants as op
use Rattle.sd_types.specs.declared.works.Work.{Work}
use Rattle.sd_machine.specs.declared.plans.Plan.{Plan}
use Rattle.sd_machine.specs.declared.plans.Plan.TheVariants.{Make}
use Rattle.sd_state.specs.declared.states.State.{State}
use Rattle.sd_state.specs.States.{thread_of, cpu_of}
use Rattle.sd_state.specs.Operations.{op_of}
use Rattle.sd_machine.specs.Threads.{thread_id, lock_of, runner, best_ready, best_queued, best_waiter, best_sleeper, best_sleeper_below, first_due, next_to_age}
use Rattle.sd_machine.specs.Dispatching.{leave_plan, dispatch_plan}
use Rattle.sd_machine.specs.Sleeping.{napend_plan, wake_plan, rouse_plan}
use Rattle.sd_machine.specs.Locking.{enter_event, read_event, write_event, unblock_plan, grant_writer_plan, grant_reader_plan}
use Rattle.sd_machine.specs.Walking.{walk_plan}
use Rattle.sd_machine.specs.Prioritising.{answer_to, prio_plan, age_plan}
use Rattle.sd_machine.specs.Conditions.{sema_p_event, sema_v_plan}
use Rattle.sd_machine.specs.SetChanges.{assign_answer, closing_plan, bind_to}

-- the first of two that gives anything
abbrev pub first_of : Option Plan → Option Plan → Option Plan
first_of None later = later
first_of (Some plan) later = Some plan

-- 1. The duty.

abbrev pub duty_plan_of : Work → State → Duty → Option Plan
duty_plan_of w s Nothing = None
duty_plan_of w s (Walk l seek key) = Some (walk_plan s l (lock_of s l.0))
duty_plan_of w s (WakeMutex l) = unblock_plan w s l (best_waiter s l.0 Writer)
duty_plan_of w s (GrantWriter l) = grant_writer_plan w s l (best_waiter s l.0 Writer)
duty_plan_of w s (GrantReaders l) = Some (grant_reader_plan w s l (best_waiter s l.0 Reader))
duty_plan_of w s (Rouse k below) = Some (rouse_plan w s k (best_sleeper_below s k.0 below))
duty_plan_of w s (Age u) = None

unfoldable pub duty_plan : Work → State → ℕ → Option Plan
duty_plan w s c = duty_plan_of w s (cpu_of s c).duty

-- 2. A nap that is over.

unfoldable pub nap_plan : Work → State → ℕ → Option Plan
nap_plan w s c = napend_plan w s (first_due s c)

-- 3. Ageing.

abbrev pub ageing_plan_of : Work → State → ℕ → Duty → Option Plan
ageing_plan_of w s c (Age u) = age_plan w s (next_to_age s c u.0)
ageing_plan_of w s c _ = None

unfoldable pub ageing_plan : Work → State → ℕ → Option Plan
ageing_plan w s c = ageing_plan_of w s c (cpu_of s c).duty

-- 4. to 6. What a processor on which a thread runs does, and one on which none runs.

unfoldable pub op_plan : Work → State → ℕ → Option Op → Plan
op_plan w s t None = Make (event.Done (thread_id t))
op_plan w s t (Some (op.Run n)) = Make (event.Tick (thread_id t))
op_plan w s t (Some op.Yield) = Make (event.Yield (thread_id t))
op_plan w s t (Some (op.Nap n)) = Make (event.Nap (thread_id t))
op_plan w s t (Some (op.Sleep k)) = Make (event.Sleep (thread_id t) k)
op_plan w s t (Some (op.Wake k)) = wake_plan w s t k (best_sleeper s k.0)
op_plan w s t (Some (op.WakeAll k)) = Make (event.Wakeall (thread_id t) k)
op_plan w s t (Some (op.Enter l)) = Make (enter_event s t l (lock_of s l.0))
op_plan w s t (Some (op.Read l)) = Make (read_event s t l (lock_of s l.0))
op_plan w s t (Some (op.Write l)) = Make (write_event t l (lock_of s l.0))
op_plan w s t (Some (op.Exit l)) = Make (event.Exit (thread_id t) l)
op_plan w s t (Some (op.Prio u r)) = prio_plan w s t u (answer_to w s t u.0 r)
op_plan w s t (Some (op.CvWait k l)) = Make (event.CvWait (thread_id t) k l)
op_plan w s t (Some (op.SemaP k)) = Make (sema_p_event s t k)
op_plan w s t (Some (op.SemaV k)) = sema_v_plan w s t k (best_sleeper s k.0)
op_plan w s t (Some (op.Assign d to)) = Make (event.Assign (thread_id t) d to (assign_answer w s t d to))
op_plan w s t (Some (op.Pbind u d)) = Make (event.Bind (thread_id t) u d (bind_to w s t u.0 d))

abbrev pub run_plan_of : Work → State → ℕ → Option Plan → Plan
run_plan_of w s t None = op_plan w s t (op_of w t (thread_of s t).body)
run_plan_of w s t (Some plan) = plan

abbrev pub run_plan : Work → State → ℕ → ℕ → Plan
run_plan w s c t = run_plan_of w s t (leave_plan c (cpu_of s c) t (thread_of s t).body)

abbrev pub free_plan_of : State → ℕ → Option SetId → Plan
free_plan_of s c None = dispatch_plan s (best_ready s c)
free_plan_of s c (Some to) = closing_plan s to (best_queued s c)

abbrev pub cpu_plan_of : Work → State → ℕ → Option ℕ → Plan
cpu_plan_of w s c None = free_plan_of s c (cpu_of s c).closing
cpu_plan_of w s c (Some t) = run_plan w s c t

unfoldable pub cpu_plan : Work → State → ℕ → Plan
cpu_plan w s c = cpu_plan_of w s c (runner s c)

-- Of all six. A duty to wake somebody where nobody waits gives nothing, and does not arise.

abbrev pub or_plan : Option Plan → Plan → Plan
or_plan None later = later
or_plan (Some plan) later = plan

unfoldable pub plan : Work → State → ℕ → Plan
plan w s c = or_plan (first_of (duty_plan w s c) (first_of (nap_plan w s c) (ageing_plan w s c))) (cpu_plan w s c)
