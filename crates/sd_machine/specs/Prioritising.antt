-- Class parameters that change, and threads that have waited for a long time: prio, age.
-- Source: priocntl(2), ts_dptbl(4), Solaris Internals (ts_update).
use Rattle.std.specs.Prelude.{ℕ, ◌+◌, Bool, false, ◌==◌, Option, Some, None, Result, Ok, Err, option_map, unwrap_or, slice_get, if◌then◌else◌}
use Rattle.sd_types.specs.declared.numbers.CpuId.{CpuId}
use Rattle.sd_types.specs.declared.numbers.ThreadId.{ThreadId}
use Rattle.sd_types.specs.declared.classes.ClassParms.{ClassParms}
use Rattle.sd_types.specs.declared.classes.ClassState.{ClassState}
use Rattle.sd_types.specs.declared.events.Denied.{Denied}
use Rattle.sd_types.specs.declared.events.Duty.TheVariants.{Walk, Age}
use Rattle.sd_types.specs.declared.events.Event.TheVariants as event
use Rattle.sd_types.specs.declared.events.PrioAnswer.{PrioAnswer}
use Rattle.sd_types.specs.declared.events.PrioAnswer.TheVariants.{Changed, Refused}
use Rattle.sd_types.specs.declared.events.Put.{Put}
use Rattle.sd_types.specs.declared.events.Put.TheVariants.{Cpu}
use Rattle.sd_types.specs.declared.scripts.Op.{Op}
use Rattle.sd_types.specs.declared.scripts.Op.TheVariants as op
use Rattle.sd_types.specs.declared.scripts.Request.{Request}
use Rattle.sd_types.specs.declared.works.Work.{Work}
use Rattle.sd_rules.specs.Priocntl.{judged, entered}
use Rattle.sd_machine.specs.declared.plans.Plan.{Plan}
use Rattle.sd_machine.specs.declared.plans.Plan.TheVariants.{Make}
use Rattle.sd_machine.specs.declared.plans.Placement.TheVariants as placement
use Rattle.sd_state.specs.declared.states.Place.{Place}
use Rattle.sd_state.specs.declared.states.Place.TheVariants.{Waiting}
use Rattle.sd_state.specs.declared.states.State.{State}
use Rattle.sd_state.specs.States.{thread_of, eff_of}
use Rattle.sd_state.specs.Operations.{op_of}
use Rattle.sd_machine.specs.Threads.{thread_id, has_ended}
use Rattle.sd_machine.specs.Bodies.{parms_of, aged_class}
use Rattle.sd_types.specs.Priorities.{eff_as}
use Rattle.sd_machine.specs.Changes.{finish_op, set_class, set_duty, put}
use Rattle.sd_machine.specs.Requeueing.{requeue, requeue_plan, reordered}

-- priocntl(2).

abbrev pub uid_of : Work → ℕ → ℕ
uid_of w t = unwrap_or (option_map (λ d. d.uid) (slice_get w.threads t)) 0

abbrev pub is_privileged : Work → ℕ → Bool
is_privileged w t = unwrap_or (option_map (λ d. d.privileged) (slice_get w.threads t)) false

-- the user and the parameters of a thread that has not ended
abbrev pub target_of : Work → State → ℕ → Option (ℕ × ClassParms)
target_of w s u = if has_ended (thread_of s u).place then None else Some (uid_of w u, parms_of (thread_of s u).body.class)

-- the answer to thread t, which asks for thread u
abbrev pub answer_to : Work → State → ℕ → ℕ → Request → Result ClassParms Denied
answer_to w s t u r = judged (uid_of w t) (is_privileged w t) (target_of w s u) r

abbrev pub new_class : Work → State → ℕ → ClassParms → ClassState
new_class w s u parms = entered w.ts w.fx w.rt parms (thread_of s u).body.class

abbrev pub change_plan : State → ℕ → ThreadId → ℕ → Plan
change_plan s t u p =
    requeue_plan (requeue (thread_of s u.0).place (eff_of s u.0) p (thread_of s u.0).body.bound)
    (λ at. event.Prio (thread_id t) u (Changed p at)) (placement.Prio (thread_id t) u p) p

abbrev pub prio_plan : Work → State → ℕ → ThreadId → Result ClassParms Denied → Plan
prio_plan w s t u (Err denied) = Make (event.Prio (thread_id t) u (Refused denied))
prio_plan w s t u (Ok parms) = change_plan s t u (eff_as (new_class w s u.0 parms) (thread_of s u.0).body)

-- a thread that waits hands its new priority on
abbrev pub walk_from : State → CpuId → ThreadId → Place → State
walk_from s c u (Waiting l side k) = set_duty s c.0 (Walk l u k)
walk_from s c u _ = s

abbrev pub changed_to : Work → State → ℕ → CpuId → ThreadId → Option Put → ClassState → State
changed_to w s n c u at class =
    walk_from (reordered w (set_class s u.0 class) n u.0 (eff_of s u.0) at) c u (thread_of s u.0).place

abbrev pub changed_by : Work → State → ℕ → CpuId → ThreadId → Option Put → Result ClassParms Denied → State
changed_by w s n c u at (Err denied) = s
changed_by w s n c u at (Ok parms) = changed_to w s n c u at (new_class w s u.0 parms)

-- the request is that of the operation at which the caller stands
abbrev pub changed_on : Work → State → ℕ → CpuId → ℕ → ThreadId → Option Put → Option Op → State
changed_on w s n c t u at (Some (op.Prio v r)) = changed_by w s n c u at (answer_to w s t u.0 r)
changed_on w s n c t u at _ = s

unfoldable pub reprioritised : Work → State → ℕ → CpuId → ℕ → ThreadId → PrioAnswer → State
reprioritised w s n c t u (Changed p at) = finish_op w (changed_on w s n c t u at (op_of w t (thread_of s t).body)) t
reprioritised w s n c t u (Refused denied) = finish_op w s t

-- Ageing.

abbrev pub age_plan : Work → State → Option ℕ → Option Plan
age_plan w s None = None
age_plan w s (Some t) = Some (Make (event.Age (thread_id t) (eff_as (aged_class w (thread_of s t).body.class) (thread_of s t).body)))

-- a thread that was lifted goes to the back of the queue on which it stands
abbrev pub lifted : Work → State → ℕ → CpuId → ℕ → ℕ → State
lifted w s n c t old = if eff_of s t == old then s else put w s n t (Cpu c)

unfoldable pub aged : Work → State → ℕ → CpuId → ℕ → State
aged w s n c t =
    set_duty (lifted w (set_class s t (aged_class w (thread_of s t).body.class)) n c t (eff_of s t)) c.0 (Age (record { 0 = t + 1 }))
