-- Naps, and channels on which threads sleep until others wake them: nap, napend, sleep, wake, wakeall, rouse.
-- Source: Solaris Internals (sleep queues, cv_signal, cv_broadcast); that a broadcast wakes its sleepers one after another
-- is this project's own.
use Rattle.std.specs.Prelude.{ℕ, ◌+◌, ℤ, pos, Option, Some, None, is_none, if◌then◌else◌}
use Rattle.sd_types.specs.declared.numbers.ChanId.{ChanId}
use Rattle.sd_types.specs.declared.numbers.CpuId.{CpuId}
use Rattle.sd_types.specs.declared.numbers.ThreadId.{ThreadId}
use Rattle.sd_types.specs.declared.events.Duty.{Duty}
use Rattle.sd_types.specs.declared.events.Duty.TheVariants.{Nothing, Rouse as ToRouse}
use Rattle.sd_types.specs.declared.events.Event.TheVariants as event
use Rattle.sd_types.specs.declared.events.Put.{Put}
use Rattle.sd_types.specs.declared.scripts.Op.{Op}
use Rattle.sd_types.specs.declared.scripts.Op.TheVariants as op
use Rattle.sd_types.specs.declared.works.Work.{Work}
use Rattle.sd_machine.specs.declared.plans.Plan.{Plan}
use Rattle.sd_machine.specs.declared.plans.Plan.TheVariants.{Make, Place as PlaceIt}
use Rattle.sd_machine.specs.declared.plans.Placement.TheVariants as placement
use Rattle.sd_state.specs.declared.states.Place.TheVariants.{Asleep, Napping}
use Rattle.sd_state.specs.declared.states.State.{State}
use Rattle.sd_state.specs.States.{thread_of, cpu_of}
use Rattle.sd_state.specs.Operations.{op_of}
use Rattle.sd_machine.specs.Threads.{thread_id, best_sleeper, best_sleeper_below}
use Rattle.sd_machine.specs.Bodies.{woken_class}
use Rattle.sd_types.specs.Priorities.{eff_as}
use Rattle.sd_machine.specs.Changes.{back_key, finish_op, set_class, set_duty, leave, put}

-- When they come.

-- the effective priority of a thread after its wakeup
abbrev pub woken_priority : Work → State → ℕ → ℕ
woken_priority w s t = eff_as (woken_class w (thread_of s t).body.class) (thread_of s t).body

abbrev pub napend_plan : Work → State → Option ℕ → Option Plan
napend_plan w s None = None
napend_plan w s (Some t) = Some (PlaceIt (placement.Napend (thread_id t)) (woken_priority w s t))

abbrev pub wake_plan : Work → State → ℕ → ChanId → Option ℕ → Plan
wake_plan w s t k None = Make (event.Wake (thread_id t) k None)
wake_plan w s t k (Some u) = PlaceIt (placement.Wake (thread_id t) k (thread_id u)) (woken_priority w s u)

abbrev pub rouse_plan : Work → State → ChanId → Option ℕ → Plan
rouse_plan w s k None = Make (event.Rouse k None)
rouse_plan w s k (Some u) = PlaceIt (placement.Rouse k (thread_id u)) (woken_priority w s u)

-- What they do.

-- by entry n thread t wakes up and is made runnable
unfoldable pub woken : Work → State → ℕ → ℕ → Put → State
woken w s n t at = put w (set_class s t (woken_class w (thread_of s t).body.class)) n t at

-- the ticks of a `nap` operation
abbrev pub nap_ticks : Option Op → ℕ
nap_ticks (Some (op.Nap n)) = n
nap_ticks _ = 0

unfoldable pub napped : Work → State → CpuId → ℕ → State
napped w s c t =
    finish_op w (leave s c.0 t (Napping c ((cpu_of s c.0).count + nap_ticks (op_of w t (thread_of s t).body)))) t

-- on a sleep queue by entry n
unfoldable pub fallen_asleep : Work → State → ℕ → CpuId → ℕ → ChanId → State
fallen_asleep w s n c t k = finish_op w (leave s c.0 t (Asleep k (back_key n))) t

unfoldable pub woke : Work → State → ℕ → ℕ → Option (ThreadId × Put) → State
woke w s n t None = finish_op w s t
woke w s n t (Some u) = finish_op w (woken w s n u.0.0 u.1) t

-- the processor is to wake all that sleep on the channel now
unfoldable pub woke_all : Work → State → ℕ → CpuId → ℕ → ChanId → State
woke_all w s n c t k =
    finish_op w (if is_none (best_sleeper s k.0) then s else set_duty s c.0 (ToRouse k (back_key n))) t

-- the duty is over with the last sleeper whose key is below its number
abbrev pub roused_on : State → CpuId → Option ℕ → State
roused_on s c None = set_duty s c.0 Nothing
roused_on s c (Some u) = s

-- the number of a duty to wake sleepers
abbrev pub rouse_key : Duty → ℤ
rouse_key (ToRouse k below) = below
rouse_key _ = pos 0

unfoldable pub roused : Work → State → ℕ → CpuId → ChanId → Option (ThreadId × Put) → Duty → State
roused w s n c k None duty = set_duty s c.0 Nothing
roused w s n c k (Some u) duty = roused_on (woken w s n u.0.0 u.1) c (best_sleeper_below (woken w s n u.0.0 u.1) k.0 (rouse_key duty))
