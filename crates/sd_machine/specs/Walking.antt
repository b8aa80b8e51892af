-- The walk along a chain of blocked owners, by which a waiter's priority passes to the owner of its lock, and on from an
-- owner that waits itself: will, end.
-- Source: Solaris Internals (turnstiles: priority inheritance, turnstile_pi_inherit); that a walk takes one lock at a time,
-- and how it finds that a chain is closed, are this project's own.
--
-- Why: a thread that waits for a lock would wait for every thread whose priority lies between its own and that of the owner,
-- though none of these has to do with the lock. So an owner runs at the greatest effective priority of those that wait for its
-- locks, until it gives them up. An owner that waits for a lock itself does not run, whatever its priority: it is the owner of
-- that lock who has to hurry, and so on. In turnstile.c the blocking thread goes along this chain at once, with one turnstile's
-- lock in hand while it takes the next; here the walk is a duty of its processor, one `will` for each lock, so that the other
-- processors act in between.
--
-- For example, low (priority 20) owns m; middle (50) owns l and waits for m; high (110) blocks on l, and its processor has the
-- duty to walk from l. The first will gives middle 110 for l; middle waits for m, so the walk goes on there. The second gives
-- low 110 for m; low waits for nothing, so the duty is over. Had somebody given m up in between, nobody would own it now, and
-- in place of the second will the walk would end.
--
-- A chain may be closed: a owns l and waits for m, b owns m and waits for l. A walk seeks the wait with the greatest key that it
-- has met, which is the last one that began. Where it comes back to that wait, the chain behind it is a blocking cycle; the
-- thread that waits there is marked as looped, and this walk and every later one ends at it, so that none goes round for ever.
use Rattle.std.specs.Prelude.{ℤ, Some, None, ℕ, Bool, false, ◌&&◌, ◌||◌, ◌==◌, int_lt, Option, if◌then◌else◌}
use Rattle.std.specs.Ordering.{int_eq}
use Rattle.sd_types.specs.declared.numbers.CpuId.{CpuId}
use Rattle.sd_types.specs.declared.numbers.LockId.{LockId}
use Rattle.sd_types.specs.declared.numbers.ThreadId.{ThreadId}
use Rattle.sd_types.specs.declared.events.Duty.{Duty}
use Rattle.sd_types.specs.declared.events.Duty.TheVariants.{Nothing, Walk}
use Rattle.sd_types.specs.declared.events.Event.TheVariants as event
use Rattle.sd_types.specs.declared.events.Put.{Put}
use Rattle.sd_types.specs.declared.works.Work.{Work}
use Rattle.sd_machine.specs.declared.plans.Plan.{Plan}
use Rattle.sd_machine.specs.declared.plans.Plan.TheVariants.{Make}
use Rattle.sd_machine.specs.declared.plans.Placement.TheVariants as placement
use Rattle.sd_state.specs.declared.states.Place.{Place}
use Rattle.sd_state.specs.declared.states.Place.TheVariants.{Waiting}
use Rattle.sd_state.specs.declared.states.LockState.{LockState}
use Rattle.sd_state.specs.declared.states.LockState.TheVariants.{Owned}
use Rattle.sd_state.specs.declared.states.State.{State}
use Rattle.sd_state.specs.States.{thread_of, cpu_of, eff_of}
use Rattle.sd_machine.specs.Threads.{greatest_waiting}
use Rattle.sd_machine.specs.Bodies.{eff_as_with}
use Rattle.sd_machine.specs.Changes.{set_number, set_looped, set_duty}
use Rattle.sd_machine.specs.Requeueing.{requeue, requeue_plan, reordered}

-- the owner's effective priority with the greatest of the lock's waiters
abbrev pub inherited_priority : State → LockId → ℕ → ℕ
inherited_priority s l o = eff_as_with (thread_of s o).body.class l (greatest_waiting l.0 s.threads) (thread_of s o).body

abbrev pub will_plan : State → LockId → ThreadId → ℕ → Plan
will_plan s l o p =
    requeue_plan (requeue (thread_of s o.0).place (eff_of s o.0) p (thread_of s o.0).body.bound)
    (λ at. event.Will l o p at) (placement.Will l o p) p

-- at a lock that nobody owns the walk ends
abbrev pub walk_plan : State → LockId → LockState → Plan
walk_plan s l (Owned o) = will_plan s l o (inherited_priority s l o.0)
walk_plan s l _ = Make (event.End l)

-- the lock for which one waits at a place, with the key
abbrev pub waits_at : Place → Option (LockId × ℤ)
waits_at (Waiting m side k) = Some (m, k)
waits_at _ = None

-- the walk has come back to the thread that it seeks, at the owner o who waits with a key
abbrev pub is_back_at : Duty → ThreadId → Option (LockId × ℤ) → Bool
is_back_at (Walk l seek key) o (Some m) = (seek.0 == o.0) && int_eq key m.1
is_back_at _ o _ = false

-- where the walk goes from the owner o, which is looped or not: it ends at one that does not wait, at one that is looped and at
-- the one that it seeks; it seeks an owner with a greater key from there on
abbrev pub next_walk_at : Duty → ThreadId → Bool → Option (LockId × ℤ) → Duty
next_walk_at (Walk l seek key) o looped (Some m) =
    if looped || ((seek.0 == o.0) && int_eq key m.1) then Nothing else if int_lt key m.1 then Walk m.0 o m.1 else Walk m.0 seek key
next_walk_at _ o looped _ = Nothing

abbrev pub is_back : Duty → ThreadId → Place → Bool
is_back duty o place = is_back_at duty o (waits_at place)

abbrev pub next_walk : Duty → ThreadId → Bool → Place → Duty
next_walk duty o looped place = next_walk_at duty o looped (waits_at place)

-- the owner o with its number for the lock, and the duty of the walk
abbrev pub walked : State → CpuId → LockId → ThreadId → State
walked s c l o =
    set_duty
    (set_looped (set_number s o.0 l (greatest_waiting l.0 s.threads)) o.0
    ((thread_of s o.0).body.looped || is_back (cpu_of s c.0).duty o (thread_of s o.0).place))
    c.0 (next_walk (cpu_of s c.0).duty o (thread_of s o.0).body.looped (thread_of s o.0).place)

unfoldable pub willed : Work → State → ℕ → CpuId → LockId → ThreadId → Option Put → State
willed w s n c l o at = reordered w (walked s c l o) n o.0 (eff_of s o.0) at

unfoldable pub walk_ended : State → CpuId → State
walk_ended s c = set_duty s c.0 Nothing
