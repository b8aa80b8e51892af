-- Reading a state beyond its threads and processors: its locks, the counts of its channels, its open processors;
-- and which thread is the best of those that run, are queued, wait, sleep or nap somewhere.
-- Source: Solaris Internals (dispatch queues, turnstiles, sleep queues): the greatest effective priority goes first, and
-- of these the thread that has stood longest, as the keys say (this project's own).
use Rattle.std.specs.Prelude.{ℕ, ◌+◌, Bool, true, false, ◌&&◌, List, [], ◌∷◌, drop, max, nat_lt, nat_le, ◌==◌, ℤ, int_lt, Option, Some, None, is_none, option_map, position, slice_index_or, slice_set, if◌then◌else◌}
use Rattle.std.specs.List.{list_any}
use Rattle.sd_types.specs.declared.numbers.CpuId.{CpuId}
use Rattle.sd_types.specs.declared.numbers.Side.{Side}
use Rattle.sd_types.specs.declared.numbers.ThreadId.{ThreadId}
use Rattle.sd_types.specs.declared.classes.ClassState.{ClassState}
use Rattle.sd_types.specs.declared.classes.ClassState.TheVariants.{Ts, Sys}
use Rattle.sd_types.specs.Priorities.{eff}
use Rattle.arrayvec.specs.ArrayVec.{ArrayVec}
use Rattle.sd_state.specs.declared.states.Place.{Place}
use Rattle.sd_state.specs.declared.states.Place.TheVariants.{Running, Waiting, Asleep, Napping, Ended}
use Rattle.sd_state.specs.declared.states.LockState.{LockState}
use Rattle.sd_state.specs.declared.states.LockState.TheVariants.{Free}
use Rattle.sd_state.specs.declared.states.ThreadState.{ThreadState}
use Rattle.sd_state.specs.declared.states.State.{State}
use Rattle.sd_state.specs.States.{cpu_of, is_running, is_queued, is_ready, same_side, eff_of}
use Rattle.sd_state.specs.Best.{best_by, beats}

abbrev pub thread_id : ℕ → ThreadId
thread_id t = record { 0 = t }

-- A number that is out of range reads a free lock, a count of 0 and an empty list, and changes nothing.

abbrev pub lock_of : State → ℕ → LockState
lock_of s l = slice_index_or s.locks l Free

abbrev pub with_lock : State → ℕ → LockState → State
with_lock s l x = record s { locks = slice_set s.locks l x }

-- the count of a semaphore
abbrev pub count_of : State → ℕ → ℕ
count_of s k = slice_index_or s.counts k 0

abbrev pub with_count : State → ℕ → ℕ → State
with_count s k n = record s { counts = slice_set s.counts k n }

abbrev pub no_cpus : ArrayVec CpuId
no_cpus = record { items = [] }

-- the open processors of a set, in rising order
abbrev pub open_of : State → ℕ → List CpuId
open_of s p = (slice_index_or s.open_cpus p no_cpus).items

abbrev pub with_open : State → ℕ → List CpuId → State
with_open s p cpus = record s { open_cpus = slice_set s.open_cpus p (record { items = cpus }) }

abbrev pub is_ts : ClassState → Bool
is_ts (Ts s) = true
is_ts _ = false

abbrev pub is_sys : ClassState → Bool
is_sys (Sys s) = true
is_sys _ = false

-- waits for lock l, on either side, or on one side
abbrev pub is_waiting : ℕ → Place → Bool
is_waiting l (Waiting m side k) = m.0 == l
is_waiting l _ = false

abbrev pub is_waiting_at : ℕ → Side → Place → Bool
is_waiting_at l side (Waiting m other k) = (m.0 == l) && same_side side other
is_waiting_at l side _ = false

-- sleeps on channel k
abbrev pub is_asleep : ℕ → Place → Bool
is_asleep k (Asleep j key) = j.0 == k
is_asleep k _ = false

-- sleeps on channel k with a key below a number
abbrev pub is_asleep_below : ℕ → ℤ → Place → Bool
is_asleep_below k below (Asleep j key) = (j.0 == k) && int_lt key below
is_asleep_below k below _ = false

-- naps on processor c, and its nap is over where the processor has counted these ticks
abbrev pub is_due : ℕ → ℕ → Place → Bool
is_due c count (Napping d due) = (d.0 == c) && nat_le due count
is_due c count _ = false

-- when a nap ends
abbrev pub due_of : Place → ℕ
due_of (Napping c due) = due
due_of _ = 0

abbrev pub has_ended : Place → Bool
has_ended Ended = true
has_ended _ = false

-- The threads by number, None where there is none. Of equals the least number is meant, which for keys never happens.

-- the thread that runs on processor c
unfoldable pub runner : State → ℕ → Option ℕ
runner s c = position (λ x. is_running c x.place) s.threads

-- the best on the queue of processor c or on the real-time queue of its partition; where priorities are equal the
-- real-time queue goes first
unfoldable pub best_ready : State → ℕ → Option ℕ
best_ready s c = best_by (λ x. is_ready c (cpu_of s c).set.0 x.place) beats s.threads

-- the best on the queue of processor c alone
unfoldable pub best_queued : State → ℕ → Option ℕ
best_queued s c = best_by (λ x. is_queued c x.place) beats s.threads

-- the best on the queue of processor c that is bound to no processor
unfoldable pub best_unbound : State → ℕ → Option ℕ
best_unbound s c = best_by (λ x. is_queued c x.place && is_none x.body.bound) beats s.threads

-- the best that waits for lock l at a side
unfoldable pub best_waiter : State → ℕ → Side → Option ℕ
best_waiter s l side = best_by (λ x. is_waiting_at l side x.place) beats s.threads

-- the best that sleeps on channel k
unfoldable pub best_sleeper : State → ℕ → Option ℕ
best_sleeper s k = best_by (λ x. is_asleep k x.place) beats s.threads

-- the best that sleeps on channel k with a key below a number
unfoldable pub best_sleeper_below : State → ℕ → ℤ → Option ℕ
best_sleeper_below s k below = best_by (λ x. is_asleep_below k below x.place) beats s.threads

abbrev pub naps_less : ThreadState → ThreadState → Bool
naps_less x y = nat_lt (due_of x.place) (due_of y.place)

-- the thread whose nap on processor c is over first, where one is over
unfoldable pub first_due : State → ℕ → Option ℕ
first_due s c = best_by (λ x. is_due c (cpu_of s c).count x.place) naps_less s.threads

-- the least of the time-sharing threads with number u or more on the queue of processor c
unfoldable pub next_to_age : State → ℕ → ℕ → Option ℕ
next_to_age s c u = option_map (λ i. u + i) (position (λ x. is_queued c x.place && is_ts x.body.class) (drop u s.threads))

-- Priorities of such threads.

abbrev pub priority_of : State → Option ℕ → Option ℕ
priority_of s None = None
priority_of s (Some t) = Some (eff_of s t)

abbrev pub greater : ℕ → Option ℕ → ℕ
greater n None = n
greater n (Some m) = max n m

-- the greatest effective priority of the waiters of lock l, on both sides
unfoldable pub greatest_waiting : ℕ → List ThreadState → Option ℕ
greatest_waiting l [] = None
greatest_waiting l (x ∷ xs) = if is_waiting l x.place then Some (greater (eff x.body) (greatest_waiting l xs)) else greatest_waiting l xs

-- the lock has waiters
unfoldable pub has_waiters : State → ℕ → Bool
has_waiters s l = list_any (λ x. is_waiting l x.place) s.threads

-- a thread runs on some processor
abbrev pub runs_somewhere : Place → Bool
runs_somewhere (Running c) = true
runs_somewhere _ = false
