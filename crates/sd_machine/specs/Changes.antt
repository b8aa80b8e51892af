-- The changes of a state of which the events are composed, each a word of its own. What a word does not name stays.
-- Source: Solaris Internals (setfrontdq, setbackdq, cpu_surrender, turnstiles); keys are this project's own.
use Rattle.std.specs.Prelude.{ℕ, ◌+◌, ◌-◌, ◌%◌, Bool, true, false, not, ◌&&◌, List, [], ◌∷◌, filter, nat_lt, nat_le, ◌==◌, ℤ, pos, negsuc, Option, Some, None, is_none, if◌then◌else◌}
use Rattle.sd_types.specs.declared.numbers.CpuId.{CpuId}
use Rattle.sd_types.specs.declared.numbers.LockId.{LockId}
use Rattle.sd_types.specs.declared.numbers.SetId.{SetId}
use Rattle.sd_types.specs.declared.bodies.ThreadBody.{ThreadBody}
use Rattle.sd_types.specs.declared.classes.ClassState.{ClassState}
use Rattle.sd_types.specs.declared.events.Duty.{Duty}
use Rattle.sd_types.specs.declared.events.Duty.TheVariants.{Age}
use Rattle.sd_types.specs.declared.events.End.{End}
use Rattle.sd_types.specs.declared.events.End.TheVariants.{Front, Back}
use Rattle.sd_types.specs.declared.events.Put.{Put}
use Rattle.sd_types.specs.declared.events.Put.TheVariants.{Cpu, RealTime as OnRealTime}
use Rattle.sd_types.specs.declared.works.Work.{Work}
use Rattle.sd_types.specs.Priorities.{eff, real_time_priority}
use Rattle.sd_state.specs.declared.states.Place.{Place}
use Rattle.sd_state.specs.declared.states.Place.TheVariants.{Running, Queued, RealTime}
use Rattle.sd_state.specs.declared.states.CpuState.{CpuState}
use Rattle.sd_state.specs.declared.states.State.{State}
use Rattle.sd_state.specs.States.{thread_of, cpu_of, with_thread, with_cpu, set_of, eff_of, first_back_key}
use Rattle.sd_state.specs.Operations.{script_of, op_over, ran}
use Rattle.sd_machine.specs.Threads.{open_of, with_open, runner, best_ready, priority_of}
use Rattle.sd_machine.specs.Bodies.{with_class, departed, arrived}
use Rattle.sd_types.specs.Willed.{changed_number, with_willed, with_lock as with_held, released as without_held}

-- Keys: that of a thread which entry n puts at an end of a queue, on a turnstile or on a sleep queue.

abbrev pub back_key : ℕ → ℤ
back_key n = pos (first_back_key + n)

abbrev pub key_at : ℕ → End → ℤ
key_at n Back = back_key n
key_at n Front = negsuc n

-- The body of a thread.

abbrev pub with_body : State → ℕ → ThreadBody → State
with_body s t b = with_thread s t (record (thread_of s t) { body = b })

abbrev pub with_place : State → ℕ → Place → State
with_place s t place = with_thread s t (record (thread_of s t) { place = place })

-- its operation is over
unfoldable pub finish_op : Work → State → ℕ → State
finish_op w s t = with_body s t (op_over (script_of w t) (thread_of s t).body)

-- a tick of its `run` operation
unfoldable pub run_tick : Work → State → ℕ → State
run_tick w s t = with_body s t (ran (script_of w t) (thread_of s t).body)

unfoldable pub set_class : State → ℕ → ClassState → State
set_class s t class = with_body s t (with_class (thread_of s t).body class)

-- it is to go to the back of its queue
unfoldable pub send_back : State → ℕ → State
send_back s t = with_body s t (record (thread_of s t).body { back = true })

-- it holds the lock, or no more
unfoldable pub hold : State → ℕ → LockId → State
hold s t l = with_body s t (with_held l (thread_of s t).body)

unfoldable pub let_go : State → ℕ → LockId → State
let_go s t l = with_body s t (without_held l (thread_of s t).body)

-- the priority that it inherits from the waiters of the lock
unfoldable pub set_number : State → ℕ → LockId → Option ℕ → State
set_number s t l number = with_body s t (with_willed (changed_number l number (thread_of s t).body.willed.items) (thread_of s t).body)

-- a walk has come back to it
unfoldable pub set_looped : State → ℕ → Bool → State
set_looped s t looped = with_body s t (record (thread_of s t).body { looped = looped })

-- A processor.

unfoldable pub set_duty : State → ℕ → Duty → State
set_duty s c duty = with_cpu s c (record (cpu_of s c) { duty = duty })

-- each second the time-sharing threads on the queue are looked at
abbrev pub duty_after : Work → ℕ → Duty → Duty
duty_after w count duty = if (count % w.hz) == 0 then Age (record { 0 = 0 }) else duty

-- one tick more
abbrev pub counted : Work → CpuState → CpuState
counted w x = record x { count = x.count + 1; duty = duty_after w (x.count + 1) x.duty }

unfoldable pub count_tick : Work → State → ℕ → State
count_tick w s c = with_cpu s c (counted w (cpu_of s c))

-- both marks are cleared
abbrev pub unmarked : CpuState → CpuState
unmarked x = record x { user = false; kernel = false }

unfoldable pub clear_marks : State → ℕ → State
clear_marks s c = with_cpu s c (unmarked (cpu_of s c))

-- marked for the sake of a thread of priority m: the kernel's mark from 100 on, else the user's
abbrev pub marked : ℕ → CpuState → CpuState
marked m x = if nat_le real_time_priority m then record x { kernel = true } else record x { user = true }

unfoldable pub set_mark : State → ℕ → ℕ → State
set_mark s c m = with_cpu s c (marked m (cpu_of s c))

unfoldable pub set_kernel_mark : State → ℕ → State
set_kernel_mark s c = with_cpu s c (record (cpu_of s c) { kernel = true })

-- the running thread, if there is one, has a smaller priority than this
abbrev pub runs_below : ℕ → Option ℕ → Bool
runs_below m None = false
runs_below m (Some r) = nat_lt r m

-- a thread of priority m has come to processor x: it is marked where a thread of a smaller priority runs
unfoldable pub mark_over : State → ℕ → ℕ → State
mark_over s x m = if runs_below m (priority_of s (runner s x)) then set_mark s x m else s

-- the greater of what is ready on processor x, where a thread with a smaller priority runs
abbrev pub rivals : Option ℕ → Option ℕ → Bool
rivals None r = false
rivals (Some m) r = runs_below m r

abbrev pub priority_or_zero : Option ℕ → ℕ
priority_or_zero None = 0
priority_or_zero (Some m) = m

-- the running thread's priority may have fallen: the processor is marked where the best that is ready has more
unfoldable pub remark : State → ℕ → State
remark s x =
    if rivals (priority_of s (best_ready s x)) (priority_of s (runner s x))
    then set_mark s x (priority_or_zero (priority_of s (best_ready s x))) else s

-- Threads come to processors and leave them.

-- thread t runs on processor c
unfoldable pub run_on : State → ℕ → CpuId → State
run_on s t c = with_thread s t (record { body = arrived c (thread_of s t).body; place = Running c })

-- thread t leaves processor c for a place: both marks and its own `back` are cleared
unfoldable pub leave : State → ℕ → ℕ → Place → State
leave s c t place =
    with_cpu (with_thread s t (record { body = departed (cpu_of s c).count (thread_of s t).body; place = place })) c (unmarked (cpu_of s c))

-- the queue of a thread that has been on processor c: the real-time queue of its partition from priority 100 on, unless
-- it is bound, and else that processor's own
abbrev pub queue_place : Work → ℕ → CpuId → ℤ → ThreadBody → Place
queue_place w t c key b = if nat_le real_time_priority (eff b) && is_none b.bound then RealTime (set_of w t) key else Queued c key

-- the place to which entry n puts a thread that is made runnable, and the processor that is chosen
abbrev pub place_put : Work → ℕ → ℕ → Put → Place
place_put w n t (Cpu x) = Queued x (back_key n)
place_put w n t (OnRealTime x) = RealTime (set_of w t) (back_key n)

abbrev pub cpu_put : Put → CpuId
cpu_put (Cpu x) = x
cpu_put (OnRealTime x) = x

-- entry n makes thread t runnable: it goes to the back of the queue, and the chosen processor is marked
unfoldable pub put : Work → State → ℕ → ℕ → Put → State
put w s n t at = mark_over (with_place s t (place_put w n t at)) (cpu_put at).0 (eff_of s t)

-- the same where it moves at all
unfoldable pub put_where : Work → State → ℕ → ℕ → Option Put → State
put_where w s n t None = s
put_where w s n t (Some at) = put w s n t at

-- Processors and sets.

-- a rising list of processors with one more, and without one
abbrev pub with_cpu_in : CpuId → List CpuId → List CpuId
with_cpu_in c [] = c ∷ []
with_cpu_in c (d ∷ ds) = if nat_lt c.0 d.0 then (c ∷ (d ∷ ds)) else (d ∷ with_cpu_in c ds)

abbrev pub without_cpu : CpuId → List CpuId → List CpuId
without_cpu c cpus = filter (λ d. not (d.0 == c.0)) cpus

-- processor d leaves the open ones of its set and is closing to another
unfoldable pub close : State → CpuId → SetId → State
close s d to =
    with_cpu (with_open s (cpu_of s d.0).set.0 (without_cpu d (open_of s (cpu_of s d.0).set.0)))
    d.0 (record (cpu_of s d.0) { closing = Some to })

-- processor c is one of the open ones of a set
unfoldable pub join : State → CpuId → SetId → State
join s c set =
    with_cpu (with_open s set.0 (with_cpu_in c (open_of s set.0)))
    c.0 (record (cpu_of s c.0) { set = set; closing = None })

-- thread t is bound to processor d, or to the processor b no more
unfoldable pub bind : State → ℕ → CpuId → State
bind s t d =
    with_cpu (with_body s t (record (thread_of s t).body { bound = Some d }))
    d.0 (record (cpu_of s d.0) { bound = (cpu_of s d.0).bound + 1 })

unfoldable pub unbind : State → ℕ → CpuId → State
unbind s t b =
    with_cpu (with_body s t (record (thread_of s t).body { bound = None }))
    b.0 (record (cpu_of s b.0) { bound = (cpu_of s b.0).bound - 1 })
