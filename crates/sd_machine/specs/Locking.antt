-- Mutexes and readers/writer locks: enter, read, write, block, exit, unblock, grant, passed.
-- Source: Solaris Internals (adaptive mutexes, rwlocks, turnstiles); that a mutex is free for whoever comes while its waiters
-- are woken, and that a rwlock is handed over, one waiter after another, are this project's own.
--
-- Why the two kinds are given up in different ways: a mutex is held for a short time, so that all its waiters are woken and ask
-- for it again, and whoever asks first has it. Readers and writers could starve one another like that; so a rwlock goes from
-- its last holder straight to those that are chosen, without being free, and they wake as its holders (rw_exit, turnstile_wakeup).
-- Waking takes one event for each waiter. Meanwhile the lock is passing, from the processor that has the duty, and who asks for
-- it spins: it is neither free nor owned by anybody who could inherit a priority.
--
-- For example, a writer gives a rwlock up for which a writer of priority 60 waits, and readers of 70, 60 and 50. The best reader is
-- above the writer, so the duty is to grant it to readers: to that of 70, then to that of 60, and not to that of 50, which is below
-- the writer. With passed the two have it. When the second gives it up a writer waits, so it goes to that one, who inherits from
-- the reader of 50 if need be.
use Rattle.std.specs.Prelude.{ℕ, ◌+◌, ◌-◌, Bool, true, false, nat_lt, nat_le, Option, Some, None, is_none, is_some, option_map, slice_get, slice_set, if◌then◌else◌}
use Rattle.sd_types.specs.declared.numbers.CpuId.{CpuId}
use Rattle.sd_types.specs.declared.numbers.LockId.{LockId}
use Rattle.sd_types.specs.declared.numbers.ThreadId.{ThreadId}
use Rattle.sd_types.specs.declared.numbers.Side.{Side}
use Rattle.sd_types.specs.declared.numbers.Side.TheVariants.{Writer, Reader}
use Rattle.sd_types.specs.declared.events.Duty.{Duty}
use Rattle.sd_types.specs.declared.events.Duty.TheVariants.{Nothing, Walk, WakeMutex, GrantWriter, GrantReaders}
use Rattle.sd_types.specs.declared.events.Event.{Event}
use Rattle.sd_types.specs.declared.events.Event.TheVariants as event
use Rattle.sd_types.specs.declared.events.Put.{Put}
use Rattle.sd_types.specs.declared.scripts.Op.{Op}
use Rattle.sd_types.specs.declared.scripts.Op.TheVariants as op
use Rattle.sd_types.specs.declared.works.LockKind.{LockKind}
use Rattle.sd_types.specs.declared.works.Work.{Work}
use Rattle.sd_types.specs.Works.{is_mutex}
use Rattle.sd_machine.specs.declared.plans.Plan.{Plan}
use Rattle.sd_machine.specs.declared.plans.Plan.TheVariants.{Make, Place as PlaceIt}
use Rattle.sd_machine.specs.declared.plans.Placement.TheVariants as placement
use Rattle.sd_state.specs.declared.states.Place.TheVariants.{Waiting, Ended}
use Rattle.sd_state.specs.declared.states.LockState.{LockState}
use Rattle.sd_state.specs.declared.states.LockState.TheVariants.{Free, Owned, ReadHeld, Passing}
use Rattle.sd_state.specs.declared.states.State.{State}
use Rattle.sd_state.specs.States.{thread_of}
use Rattle.sd_state.specs.Operations.{op_of}
use Rattle.sd_machine.specs.Threads.{thread_id, lock_of, with_lock, runs_somewhere, best_waiter, priority_of, greatest_waiting, has_waiters}
use Rattle.sd_machine.specs.Bodies.{woken_class, eff_as_with}
use Rattle.sd_machine.specs.Changes.{back_key, finish_op, hold, let_go, set_number, set_duty, leave, remark}
use Rattle.sd_machine.specs.Sleeping.{woken, woken_priority}

-- The operations.

-- the owner of a mutex runs on some processor
abbrev pub owner_runs : State → ThreadId → Bool
owner_runs s o = runs_somewhere (thread_of s o.0).place

-- a mutex is taken where it is free; while its owner runs, or its waiters are woken, the thread spins; else it blocks
abbrev pub enter_event : State → ℕ → LockId → LockState → Event
enter_event s t l Free = event.Enter (thread_id t) l
enter_event s t l (Owned o) = if owner_runs s o then event.Spin (thread_id t) l else event.Block (thread_id t) l
enter_event s t l (ReadHeld n) = event.Block (thread_id t) l
enter_event s t l (Passing c r) = event.Spin (thread_id t) l

-- a rwlock is read where it is free, or held by readers and no writer waits; while it is handed over the thread spins
abbrev pub read_event : State → ℕ → LockId → LockState → Event
read_event s t l Free = event.Read (thread_id t) l
read_event s t l (Owned o) = event.Block (thread_id t) l
read_event s t l (ReadHeld n) = if is_none (best_waiter s l.0 Writer) then event.Read (thread_id t) l else event.Block (thread_id t) l
read_event s t l (Passing c r) = event.Spin (thread_id t) l

abbrev pub write_event : ℕ → LockId → LockState → Event
write_event t l Free = event.Write (thread_id t) l
write_event t l (Owned o) = event.Block (thread_id t) l
write_event t l (ReadHeld n) = event.Block (thread_id t) l
write_event t l (Passing c r) = event.Spin (thread_id t) l

-- the thread owns the lock
unfoldable pub owned : Work → State → ℕ → LockId → State
owned w s t l = finish_op w (hold (with_lock s l.0 (Owned (thread_id t))) t l) t

-- one reader more of a lock that is free or held by readers
abbrev pub one_more : LockState → LockState
one_more (ReadHeld n) = ReadHeld (n + 1)
one_more _ = ReadHeld 1

unfoldable pub read : Work → State → ℕ → LockId → State
read w s t l = finish_op w (hold (with_lock s l.0 (one_more (lock_of s l.0))) t l) t

-- the side at which an operation waits; for a mutex it is the writers'
abbrev pub side_of : Option Op → Side
side_of (Some (op.Read l)) = Reader
side_of _ = Writer

-- thread t waits by entry n, and a walk begins at the lock, for the owner has to inherit its priority
unfoldable pub blocked : Work → State → ℕ → CpuId → ℕ → LockId → State
blocked w s n c t l =
    set_duty (leave s c.0 t (Waiting l (side_of (op_of w t (thread_of s t).body)) (back_key n))) c.0 (Walk l (thread_id t) (back_key n))

-- The release.

abbrev pub kind_of : Work → LockId → Option LockKind
kind_of w l = option_map (λ d. d.1) (slice_get w.locks l.0)

-- the best writer goes before the best reader: no reader waits, or its priority is greater
abbrev pub writer_first : Option ℕ → Option ℕ → Bool
writer_first None r = is_none r
writer_first (Some p) None = true
writer_first (Some p) (Some r) = nat_lt r p

-- to whom a rwlock goes that its writer gives up
abbrev pub after_writer : State → LockId → Duty
after_writer s l =
    if writer_first (priority_of s (best_waiter s l.0 Writer)) (priority_of s (best_waiter s l.0 Reader)) then GrantWriter l else GrantReaders l

-- and one that its last reader gives up
abbrev pub after_reader : State → LockId → Duty
after_reader s l = if is_some (best_waiter s l.0 Writer) then GrantWriter l else GrantReaders l

abbrev pub after_owner : Work → State → LockId → Duty
after_owner w s l = if is_mutex (kind_of w l) then WakeMutex l else after_writer s l

-- the lock is free where nobody waits; else processor c passes it on
abbrev pub free_or_passed : State → CpuId → LockId → Duty → State
free_or_passed s c l duty =
    if has_waiters s l.0 then set_duty (with_lock s l.0 (Passing c 0)) c.0 duty else with_lock s l.0 Free

-- a hold of the lock is given up: that of its owner, or one of its readers'
abbrev pub release_from : Work → State → CpuId → LockId → LockState → State
release_from w s c l Free = s
release_from w s c l (Owned o) = free_or_passed s c l (after_owner w s l)
release_from w s c l (ReadHeld n) = if nat_le n 1 then free_or_passed s c l (after_reader s l) else with_lock s l.0 (ReadHeld (n - 1))
release_from w s c l (Passing d r) = with_lock s l.0 (Passing d (r - 1))

unfoldable pub released : Work → State → CpuId → ℕ → LockId → State
released w s c t l = let_go (release_from w s c l (lock_of s l.0)) t l

unfoldable pub exited : Work → State → CpuId → ℕ → LockId → State
exited w s c t l = remark (finish_op w (released w s c t l) t) c.0

-- The waiters, one after another.

-- the best waiter is woken
abbrev pub unblock_plan : Work → State → LockId → Option ℕ → Option Plan
unblock_plan w s l None = None
unblock_plan w s l (Some u) = Some (PlaceIt (placement.Unblock l (thread_id u)) (woken_priority w s u))

-- with the last one the mutex is free
abbrev pub unblocked_on : State → CpuId → LockId → Bool → State
unblocked_on s c l true = s
unblocked_on s c l false = set_duty (with_lock s l.0 Free) c.0 Nothing

unfoldable pub unblocked : Work → State → ℕ → CpuId → LockId → ℕ → Put → State
unblocked w s n c l u at = unblocked_on (woken w s n u at) c l (has_waiters (woken w s n u at) l.0)

-- the threads but one, as if it waited no more
abbrev pub others_waiting : State → LockId → ℕ → Option ℕ
others_waiting s l u = greatest_waiting l.0 (slice_set s.threads u (record (thread_of s u) { place = Ended }))

-- a writer inherits the greatest priority of the waiters that are left
abbrev pub writer_priority : Work → State → LockId → ℕ → ℕ
writer_priority w s l u =
    eff_as_with (woken_class w (thread_of s u).body.class) l (others_waiting s l u) (thread_of s u).body

abbrev pub grant_writer_plan : Work → State → LockId → Option ℕ → Option Plan
grant_writer_plan w s l None = None
grant_writer_plan w s l (Some u) = Some (PlaceIt (placement.Grant l (thread_id u)) (writer_priority w s l u))

-- a reader may have the lock while it is passed on: no writer waits, or its priority is not below the best writer's
abbrev pub is_eligible : Option ℕ → Option ℕ → Bool
is_eligible None p = false
is_eligible (Some r) None = true
is_eligible (Some r) (Some p) = nat_le p r

abbrev pub grant_reader_plan : Work → State → LockId → Option ℕ → Plan
grant_reader_plan w s l None = Make (event.Passed l)
grant_reader_plan w s l (Some u) =
    if is_eligible (priority_of s (Some u)) (priority_of s (best_waiter s l.0 Writer))
    then PlaceIt (placement.Grant l (thread_id u)) (woken_priority w s u) else Make (event.Passed l)

abbrev pub one_reader_more : LockState → LockState
one_reader_more (Passing c r) = Passing c (r + 1)
one_reader_more x = x

unfoldable pub granted_to_writer : Work → State → ℕ → CpuId → LockId → ℕ → Put → State
granted_to_writer w s n c l u at =
    set_duty
    (woken w (set_number (finish_op w (hold (with_lock s l.0 (Owned (thread_id u))) u l) u) u l (others_waiting s l u)) n u at)
    c.0 Nothing

unfoldable pub granted_to_reader : Work → State → ℕ → LockId → ℕ → Put → State
granted_to_reader w s n l u at = woken w (finish_op w (hold (with_lock s l.0 (one_reader_more (lock_of s l.0))) u l) u) n u at

-- the duty of the processor says to whom the lock goes
abbrev pub granted : Work → State → ℕ → CpuId → LockId → ℕ → Put → Duty → State
granted w s n c l u at (GrantWriter m) = granted_to_writer w s n c l u at
granted w s n c l u at _ = granted_to_reader w s n l u at

-- no reader is left that may have the lock: it is the readers' that have it, else the waiting writer's, else free
abbrev pub passed_on : State → CpuId → LockId → LockState → State
passed_on s c l (Passing d r) =
    if nat_lt 0 r then set_duty (with_lock s l.0 (ReadHeld r)) c.0 Nothing
    else if is_some (best_waiter s l.0 Writer) then set_duty s c.0 (GrantWriter l)
    else set_duty (with_lock s l.0 Free) c.0 Nothing
passed_on s c l _ = set_duty s c.0 Nothing

unfoldable pub passed : State → CpuId → LockId → State
passed s c l = passed_on s c l (lock_of s l.0)
