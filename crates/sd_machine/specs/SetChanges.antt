-- Processors that change their set, and threads that are bound to one: assign, move, joined, pbind.
-- Source: psrset(1M), pbind(1M), processor_bind(2), Solaris Internals (cpupart_move_cpu); the refusals and their order are
-- this project's own.
use Rattle.std.specs.Prelude.{ℕ, Bool, false, not, ◌&&◌, ◌||◌, length, nat_lt, nat_le, ◌==◌, Option, Some, None, is_none, is_some, if◌then◌else◌}
use Rattle.sd_types.specs.declared.numbers.CpuId.{CpuId}
use Rattle.sd_types.specs.declared.numbers.SetId.{SetId}
use Rattle.sd_types.specs.declared.events.AssignAnswer.{AssignAnswer}
use Rattle.sd_types.specs.declared.events.AssignAnswer.TheVariants as assign
use Rattle.sd_types.specs.declared.events.BindAnswer.{BindAnswer}
use Rattle.sd_types.specs.declared.events.BindAnswer.TheVariants as bind_answer
use Rattle.sd_types.specs.declared.events.Event.TheVariants as event
use Rattle.sd_types.specs.declared.events.Put.{Put}
use Rattle.sd_types.specs.declared.events.Put.TheVariants.{Cpu, RealTime as OnRealTime}
use Rattle.sd_types.specs.declared.works.Work.{Work}
use Rattle.sd_machine.specs.declared.plans.Plan.{Plan}
use Rattle.sd_machine.specs.declared.plans.Plan.TheVariants.{Make, Place as PlaceIt}
use Rattle.sd_machine.specs.declared.plans.Placement.TheVariants as placement
use Rattle.sd_types.specs.Priorities.{real_time_priority}
use Rattle.sd_state.specs.declared.states.Place.{Place}
use Rattle.sd_state.specs.declared.states.Place.TheVariants.{Running, Queued, RealTime}
use Rattle.sd_state.specs.declared.states.State.{State}
use Rattle.sd_state.specs.States.{thread_of, cpu_of, set_of, eff_of}
use Rattle.sd_machine.specs.Threads.{thread_id, open_of, runner, has_ended}
use Rattle.sd_machine.specs.Changes.{finish_op, set_kernel_mark, put, put_where, close, join, bind, unbind}
use Rattle.sd_machine.specs.Prioritising.{uid_of, is_privileged}

-- Assigning a processor to a set.

-- it is closing, or it is the only open processor of its set, or a thread is bound to it
abbrev pub is_busy : State → CpuId → Bool
is_busy s d = is_some (cpu_of s d.0).closing || (length (open_of s (cpu_of s d.0).set.0) == 1) || nat_lt 0 (cpu_of s d.0).bound

-- the answer to thread t: the first refusal that holds
unfoldable pub assign_answer : Work → State → ℕ → CpuId → SetId → AssignAnswer
assign_answer w s t d to =
    if not (is_privileged w t) then assign.EPERM
    else if (cpu_of s d.0).set.0 == to.0 then assign.EINVAL
    else if is_busy s d then assign.EBUSY
    else assign.Changed

-- what runs there has to leave
abbrev pub cleared : State → CpuId → Option ℕ → State
cleared s d None = s
cleared s d (Some r) = set_kernel_mark s d.0

unfoldable pub assigned : Work → State → ℕ → CpuId → SetId → AssignAnswer → State
assigned w s t d to assign.Changed = finish_op w (cleared (close s d to) d (runner s d.0)) t
assigned w s t d to assign.EPERM = finish_op w s t
assigned w s t d to assign.EINVAL = finish_op w s t
assigned w s t d to assign.EBUSY = finish_op w s t

-- A processor that is closing: its threads go to others, the best first, and then it joins its new set.

abbrev pub closing_plan : State → SetId → Option ℕ → Plan
closing_plan s to None = Make (event.Joined to)
closing_plan s to (Some t) = PlaceIt (placement.Move (thread_id t)) (eff_of s t)

unfoldable pub moved : Work → State → ℕ → ℕ → Put → State
moved w s n t at = put w s n t at

unfoldable pub joined : State → CpuId → SetId → State
joined s c to = join s c to

-- Binding a thread to a processor.

-- an ended thread is not bound; a processor that is not of the thread's set, a second binding, and the end of none
-- are invalid
abbrev pub is_misbound : Work → State → ℕ → Option CpuId → Option CpuId → Bool
is_misbound w s u bound None = is_none bound
is_misbound w s u bound (Some d) = is_some bound || not ((cpu_of s d.0).set.0 == (set_of w u).0)

abbrev pub is_closing : State → Option CpuId → Bool
is_closing s None = false
is_closing s (Some d) = is_some (cpu_of s d.0).closing

-- where the thread goes: to the queue of its processor from another one, and off it from priority 100 on
abbrev pub bound_put : CpuId → Place → Option Put
bound_put d (Queued c k) = if c.0 == d.0 then None else Some (Cpu d)
bound_put d (RealTime p k) = Some (Cpu d)
bound_put d _ = None

abbrev pub unbound_put : ℕ → Option CpuId → Place → Option Put
unbound_put p (Some b) (Queued c k) = if nat_le real_time_priority p then Some (OnRealTime b) else None
unbound_put p _ _ = None

abbrev pub bind_put : State → ℕ → Option CpuId → Option Put
bind_put s u (Some d) = bound_put d (thread_of s u).place
bind_put s u None = unbound_put (eff_of s u) (thread_of s u).body.bound (thread_of s u).place

-- the answer to thread t, which binds thread u: the first refusal that holds
unfoldable pub bind_to : Work → State → ℕ → ℕ → Option CpuId → BindAnswer
bind_to w s t u d =
    if has_ended (thread_of s u).place then bind_answer.ESRCH
    else if is_misbound w s u (thread_of s u).body.bound d then bind_answer.EINVAL
    else if not (is_privileged w t) && not (uid_of w t == uid_of w u) then bind_answer.EPERM
    else if is_closing s d then bind_answer.EBUSY
    else bind_answer.Changed (bind_put s u d)

-- a thread that runs elsewhere has to leave
abbrev pub called_back : State → CpuId → Place → State
called_back s d (Running c) = if c.0 == d.0 then s else set_kernel_mark s c.0
called_back s d _ = s

abbrev pub rebound : State → ℕ → Option CpuId → Option CpuId → State
rebound s u (Some d) bound = called_back (bind s u d) d (thread_of s u).place
rebound s u None (Some b) = unbind s u b
rebound s u None None = s

unfoldable pub pbound : Work → State → ℕ → ℕ → ℕ → Option CpuId → BindAnswer → State
pbound w s n t u d (bind_answer.Changed at) = finish_op w (put_where w (rebound s u d (thread_of s u).body.bound) n u at) t
pbound w s n t u d bind_answer.ESRCH = finish_op w s t
pbound w s n t u d bind_answer.EINVAL = finish_op w s t
pbound w s n t u d bind_answer.EPERM = finish_op w s t
pbound w s n t u d bind_answer.EBUSY = finish_op w s t
