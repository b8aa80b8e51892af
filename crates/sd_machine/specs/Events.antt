-- The one event that a processor may make, and the state after each.
-- Source: Solaris Internals; hints, and that processors count their ticks together, are this project's own.
use Rattle.std.specs.Prelude.{ℕ, Bool, true, false, not, ◌&&◌, ◌||◌, nat_lt, nat_le, Option, Some, None, if◌then◌else◌}
use Rattle.std.specs.List.{list_all}
use Rattle.sd_types.specs.declared.numbers.CpuId.{CpuId}
use Rattle.sd_types.specs.declared.events.Duty.{Duty}
use Rattle.sd_types.specs.declared.events.Duty.TheVariants.{Nothing, Age as ToAge}
use Rattle.sd_types.specs.declared.events.Hints.{Hints}
use Rattle.sd_types.specs.declared.events.Put.{Put}
use Rattle.sd_types.specs.declared.events.PrioAnswer.TheVariants.{Changed}
use Rattle.sd_types.specs.declared.events.Event.{Event}
use Rattle.sd_types.specs.declared.events.Event.TheVariants.{Tick, Spin, Idle, Dispatch, Steal, Preempt, Yield, Done, Nap, Napend, Sleep, Wake, Wakeall, Rouse, Enter, Read, Write, Block, Will, End, Exit, Unblock, Grant, Passed, Age, Prio, CvWait, SemaP, SemaWait, SemaVWake, SemaVCount, Assign, Move, Joined, Bind, Away}
use Rattle.sd_types.specs.declared.works.Work.{Work}
use Rattle.sd_types.specs.Events.{ticks}
use Rattle.sd_machine.specs.declared.plans.Plan.{Plan}
use Rattle.sd_machine.specs.declared.plans.Plan.TheVariants.{Make, Place, Search}
use Rattle.sd_machine.specs.declared.plans.Placement.{Placement}
use Rattle.sd_machine.specs.declared.plans.Placement.TheVariants as placement
use Rattle.sd_state.specs.declared.states.State.{State}
use Rattle.sd_state.specs.States.{cpu_of}
use Rattle.sd_machine.specs.Changes.{set_duty}
use Rattle.sd_machine.specs.Choosing.{put_chosen, victim_for}
use Rattle.sd_machine.specs.Hints.{hints_fit, placed_thread, reads}
use Rattle.sd_machine.specs.Dispatching.{search_event, ticked, spun, idled, dispatched, stolen, preempted, sent_away, yielded, done}
use Rattle.sd_machine.specs.Sleeping.{napped, woken, fallen_asleep, woke, woke_all, roused}
use Rattle.sd_machine.specs.Locking.{owned, read, blocked, exited, unblocked, granted, passed}
use Rattle.sd_machine.specs.Walking.{willed, walk_ended}
use Rattle.sd_machine.specs.Prioritising.{reprioritised, aged}
use Rattle.sd_machine.specs.Conditions.{cv_waited, sema_taken, sema_counted, sema_handed}
use Rattle.sd_machine.specs.SetChanges.{assigned, moved, joined, pbound}
use Rattle.sd_machine.specs.Plans.{plan}

-- A placement with the put that was chosen.

abbrev pub event_of : Placement → Put → Event
event_of (placement.Napend t) at = Napend t at
event_of (placement.Wake t k u) at = Wake t k (Some (u, at))
event_of (placement.Rouse k u) at = Rouse k (Some (u, at))
event_of (placement.Will l o p) at = Will l o p (Some at)
event_of (placement.Unblock l u) at = Unblock l u at
event_of (placement.Grant l u) at = Grant l u at
event_of (placement.Prio t u p) at = Prio t u (Changed p (Some at))
event_of (placement.SemaVWake t k u) at = SemaVWake t k u at
event_of (placement.Move t) at = Move t at

-- The event, with what was read.

abbrev pub plan_event : Work → State → ℕ → Option Hints → Plan → Event
plan_event w s c hints (Make event) = event
plan_event w s c hints (Place placement p) = event_of placement (put_chosen w s c (placed_thread placement) p hints)
plan_event w s c hints Search = search_event s (victim_for s c hints)

-- the one event that the order of a processor's events gives to it, whether or not it may tick now
unfoldable pub wish : Work → State → ℕ → Option Hints → Event
wish w s c hints = plan_event w s c hints (plan w s c)

-- the processor's count is below the limit, and no processor's is below it
unfoldable pub may_tick : Work → State → ℕ → Bool
may_tick w s c = nat_lt (cpu_of s c).count w.limit && list_all (λ x. nat_le (cpu_of s c).count x.count) s.cpus

abbrev pub allowed : Work → State → ℕ → Event → Option Event
allowed w s c e = if not (ticks e) || may_tick w s c then Some e else None

-- the one event that processor c may make
unfoldable pub next : Work → State → CpuId → Option Hints → Option Event
next w s c hints =
    if nat_lt c.0 w.cpus && hints_fit (reads w s c.0) hints then allowed w s c.0 (wish w s c.0 hints) else None

-- The state after an event.

-- the ageing of a queue is over with the first event that is none of it; the end of a nap does not end it
abbrev pub keeps_ageing : Event → Bool
keeps_ageing (Age t p) = true
keeps_ageing (Napend t at) = true
keeps_ageing _ = false

abbrev pub dropped_duty : Event → Duty → Duty
dropped_duty e (ToAge u) = if keeps_ageing e then ToAge u else Nothing
dropped_duty e duty = duty

unfoldable pub drop_ageing : State → ℕ → Event → State
drop_ageing s c e = set_duty s c (dropped_duty e (cpu_of s c).duty)

-- what entry n of processor c does to a state in which no ageing is left over
unfoldable pub effect : Work → State → ℕ → CpuId → Event → State
effect w s n c (Tick t) = ticked w s c.0 t.0
effect w s n c (Spin t l) = spun w s c.0 t.0
effect w s n c Idle = idled w s c.0
effect w s n c (Dispatch t p) = dispatched s c t.0
effect w s n c (Steal v t p) = stolen s c t.0
effect w s n c (Preempt t end) = preempted w s n c t.0 end
effect w s n c (Away t d) = sent_away s n c t.0 d
effect w s n c (Yield t) = yielded w s n c t.0
effect w s n c (Done t) = done s c t.0
effect w s n c (Nap t) = napped w s c t.0
effect w s n c (Napend t at) = woken w s n t.0 at
effect w s n c (Sleep t k) = fallen_asleep w s n c t.0 k
effect w s n c (Wake t k u) = woke w s n t.0 u
effect w s n c (Wakeall t k) = woke_all w s n c t.0 k
effect w s n c (Rouse k u) = roused w s n c k u (cpu_of s c.0).duty
effect w s n c (Enter t l) = owned w s t.0 l
effect w s n c (Read t l) = read w s t.0 l
effect w s n c (Write t l) = owned w s t.0 l
effect w s n c (Block t l) = blocked w s n c t.0 l
effect w s n c (Will l o p at) = willed w s n c l o at
effect w s n c (End l) = walk_ended s c
effect w s n c (Exit t l) = exited w s c t.0 l
effect w s n c (Unblock l u at) = unblocked w s n c l u.0 at
effect w s n c (Grant l u at) = granted w s n c l u.0 at (cpu_of s c.0).duty
effect w s n c (Passed l) = passed s c l
effect w s n c (Age t p) = aged w s n c t.0
effect w s n c (Prio t u answer) = reprioritised w s n c t.0 u answer
effect w s n c (CvWait t k l) = cv_waited w s n c t.0 k l
effect w s n c (SemaP t k) = sema_taken w s t.0 k
effect w s n c (SemaWait t k) = fallen_asleep w s n c t.0 k
effect w s n c (SemaVWake t k u at) = sema_handed w s n t.0 u.0 at
effect w s n c (SemaVCount t k m) = sema_counted w s t.0 k
effect w s n c (Assign t d to answer) = assigned w s t.0 d to answer
effect w s n c (Move t at) = moved w s n t.0 at
effect w s n c (Joined to) = joined s c to
effect w s n c (Bind t u d answer) = pbound w s n t.0 u.0 d answer

-- the state after entry n of processor c
unfoldable pub after : Work → State → ℕ → CpuId → Event → State
after w s n c e = effect w (drop_ageing s c.0 e) n c e
