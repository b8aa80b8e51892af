-- What laws say of states: who runs where, keys, marks, sets and queues.
-- Source: Solaris Internals (the dispatcher); the ranges of keys are this project's own.
use Rattle.std.specs.Prelude.{◌≡◌, ℕ, ◌+◌, ◌<◌, Bool, true, false, ◌&&◌, ◌||◌, ◌==◌, nat_le, length, pos, neg_ℤ, ◌<ℤ◌, ◌≤ℤ◌, ◌≤◌, ◌⊎◌, Option, Some, None, ⊤}
use Rattle.sd_types.specs.declared.numbers.CpuId.{CpuId}
use Rattle.sd_types.specs.declared.works.ThreadDecl.{ThreadDecl}
use Rattle.sd_types.specs.declared.works.Work.{Work}
use Rattle.sd_types.specs.Priorities.{base_of, eff, real_time_priority}
use Rattle.sd_types.specs.Works.{class_fits}
use Rattle.sd_state.specs.declared.states.Place.{Place}
use Rattle.sd_state.specs.declared.states.Place.TheVariants.{Running, Queued, RealTime, Waiting, Asleep, Napping, Ended}
use Rattle.sd_state.specs.declared.states.CpuState.{CpuState}
use Rattle.sd_state.specs.declared.states.State.{State}
use Rattle.sd_state.specs.States.{thread_of, cpu_of, key_of, is_running, is_queued, set_of, same_side, first_back_key}
use Rattle.sd_state.specs.Opening.{class_of, is_urgent}

-- at most one thread runs on each processor
abbrev pub OneRuns : State → Type 0
OneRuns s =
    (t u c : ℕ) → t < length s.threads → u < length s.threads
    → is_running c (thread_of s t).place ≡ true → is_running c (thread_of s u).place ≡ true → t ≡ u

-- a thread in this place has a key
abbrev pub has_key : Place → Bool
has_key (Queued c k) = true
has_key (RealTime p k) = true
has_key (Waiting l side k) = true
has_key (Asleep ch k) = true
has_key _ = false

-- two threads in these places are in one queue: the queue of a processor, the real-time queue of a partition,
-- the waiters of a lock on one side, or the sleepers of a channel
abbrev pub same_queue : Place → Place → Bool
same_queue (Queued c k) (Queued d j) = c.0 == d.0
same_queue (RealTime p k) (RealTime q j) = p.0 == q.0
same_queue (Waiting l side k) (Waiting m other j) = (l.0 == m.0) && same_side side other
same_queue (Asleep ch k) (Asleep dh j) = ch.0 == dh.0
same_queue _ _ = false

-- keys in one queue differ
abbrev pub KeysDiffer : State → Type 0
KeysDiffer s =
    (t u : ℕ) → t < length s.threads → u < length s.threads
    → same_queue (thread_of s t).place (thread_of s u).place ≡ true → key_of (thread_of s t).place ≡ key_of (thread_of s u).place → t ≡ u

-- after n entries each key is at least -n and less than first_back_key + n
abbrev pub KeysWithin : ℕ → State → Type 0
KeysWithin n s =
    (t : ℕ) → t < length s.threads → has_key (thread_of s t).place ≡ true
    → (neg_ℤ (pos n) ≤ℤ key_of (thread_of s t).place) × (key_of (thread_of s t).place <ℤ pos (first_back_key + n))

-- the user's mark or the kernel's is set
abbrev pub is_marked : CpuState → Bool
is_marked x = x.user || x.kernel

-- Where a thread runs and one on the processor's own queue has a greater effective priority, the processor is marked;
-- and a processor on which no thread runs is not.
pub record MarksStand (s : State) : Type 0 where
  pub wanted : (c r u : ℕ) → r < length s.threads → u < length s.threads
      → is_running c (thread_of s r).place ≡ true → is_queued c (thread_of s u).place ≡ true
      → eff (thread_of s r).body < eff (thread_of s u).body → is_marked (cpu_of s c) ≡ true
  pub unwanted : (c : ℕ) → ((t : ℕ) → t < length s.threads → is_running c (thread_of s t).place ≡ false) → is_marked (cpu_of s c) ≡ false

-- a thread that runs, or is on a queue, does so in its own set
abbrev pub IsInItsSet : Work → State → ℕ → Place → Type 0
IsInItsSet w s t (Running c) = (cpu_of s c.0).set ≡ set_of w t
IsInItsSet w s t (Queued c k) = (cpu_of s c.0).set ≡ set_of w t
IsInItsSet w s t (RealTime p k) = p ≡ set_of w t
IsInItsSet w s t _ = ⊤

-- of priority p and bound to a processor or to none, a thread on a real-time queue has at least priority 100 and is not
-- bound, and one on a processor's own queue has a smaller one, or is bound to that processor
abbrev pub SuitsQueue : ℕ → Option CpuId → Place → Type 0
SuitsQueue p bound (Queued c k) = (p < real_time_priority) ⊎ (bound ≡ Some c)
SuitsQueue p bound (RealTime q k) = (real_time_priority ≤ p) × (bound ≡ None)
SuitsQueue p bound _ = ⊤

-- the place is one of a processor, a set, a lock or a channel of the workload
abbrev pub IsPlaceThere : Work → Place → Type 0
IsPlaceThere w (Running c) = c.0 < w.cpus
IsPlaceThere w (Queued c k) = c.0 < w.cpus
IsPlaceThere w (RealTime p k) = p.0 ≤ length w.sets
IsPlaceThere w (Waiting l side k) = l.0 < length w.locks
IsPlaceThere w (Asleep ch k) = ch.0 < length w.chans
IsPlaceThere w (Napping c due) = c.0 < w.cpus
IsPlaceThere w Ended = ⊤

-- as many threads as the workload declares, each in one place that is there
pub record PlacesAreThere (w : Work) (s : State) : Type 0 where
  pub threads : length s.threads ≡ length w.threads
  pub each : (t : ℕ) → t < length w.threads → IsPlaceThere w (thread_of s t).place

-- the threads that stand on real-time queues in the initial state are those of priority 100 or more
abbrev pub UrgentThreads : Type 0
UrgentThreads = (w : Work) (d : ThreadDecl) → class_fits d.class d.cpupri ≡ true → is_urgent d ≡ nat_le real_time_priority (base_of (class_of w d))
