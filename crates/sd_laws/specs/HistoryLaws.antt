-- What is said of the entries of a run so far: of woken threads, of threads that sleep, and of the counts of semaphores.
-- Source: Solaris Internals (sleep queues, cv_wait, cv_signal, sema_p, sema_v); that a semaphore is handed to its best
-- sleeper directly is this project's own.
use Rattle.std.specs.Prelude.{◌≡◌, ◌≢◌, ℕ, ◌+◌, ◌≤◌, Bool, true, false, List, ◌∷◌, ◌++◌, map, take, count_by, ◌==◌, slice_get, slice_index_or, ℤ, Option, Some, None, is_some}
use Rattle.std.specs.List.{All, sum_by}
use Rattle.sd_types.specs.declared.numbers.ChanId.{ChanId}
use Rattle.sd_types.specs.declared.numbers.LockId.{LockId}
use Rattle.sd_types.specs.declared.numbers.ThreadId.{ThreadId}
use Rattle.sd_types.specs.declared.events.Entry.{Entry}
use Rattle.sd_types.specs.declared.events.Event.{Event}
use Rattle.sd_types.specs.declared.events.Event.TheVariants.{Done, Nap, Sleep, Wake, Block, CvWait, SemaP, SemaWait, SemaVWake, SemaVCount}
use Rattle.sd_types.specs.declared.events.Put.{Put}
use Rattle.sd_types.specs.declared.scripts.Op.{Op}
use Rattle.sd_types.specs.declared.scripts.Op.TheVariants.{SemaP as SemaPOp, SemaV as SemaVOp}
use Rattle.sd_types.specs.declared.works.ChanKind.{ChanKind}
use Rattle.sd_types.specs.declared.works.Work.{Work}
use Rattle.sd_types.specs.Works.{is_sema}
use Rattle.sd_state.specs.declared.states.Place.{Place}
use Rattle.sd_state.specs.declared.states.Place.TheVariants.{Running, Asleep}
use Rattle.sd_state.specs.declared.states.State.{State}
use Rattle.sd_state.specs.States.{thread_of, thread_numbers}
use Rattle.sd_state.specs.Accounts.{is_wake_of}
use Rattle.sd_state.specs.Operations.{script_of}
use Rattle.sd_state.specs.Opening.{first_count, opening}
use Rattle.sd_machine.specs.Accounts.{is_wake, entries_of}
use Rattle.sd_machine.specs.Changes.{back_key}
use Rattle.sd_machine.specs.Runs.{final, IsRun}
use Rattle.sd_machine.specs.Threads.{count_of, is_asleep}
use Rattle.sd_invariants.specs.Laws.{woken_by, is_runnable}

-- Woken threads.

-- the thread that an event stops: it naps, sleeps or waits from there on, or has ended
abbrev pub stopped_by : Event → Option ℕ
stopped_by (Nap t) = Some t.0
stopped_by (Sleep t k) = Some t.0
stopped_by (Block t l) = Some t.0
stopped_by (CvWait t k l) = Some t.0
stopped_by (SemaWait t k) = Some t.0
stopped_by (Done t) = Some t.0
stopped_by _ = None

-- no entry of the list is a nap, sleep, block, cvwait, semawait or done entry of thread t
abbrev pub NoneStops : ℕ → List Entry → Type 0
NoneStops t es = All (λ e. stopped_by e.event ≢ Some t) es

-- on a dispatch queue, or running
abbrev pub runs_or_is_runnable : Place → Bool
runs_or_is_runnable (Running c) = true
runs_or_is_runnable place = is_runnable place

-- the accounts count an event as a wake of a thread exactly where it wakes that thread, and the summary counts it as a wake
-- exactly where it wakes a thread
abbrev pub WakesAreCounted : Type 0
WakesAreCounted =
    (e : Event) → ((t : ℕ) → (is_wake_of t e ≡ true → woken_by e ≡ Some t) × (woken_by e ≡ Some t → is_wake_of t e ≡ true))
    × (is_wake e ≡ is_some (woken_by e))

-- from an entry that the accounts count as a wake of thread t, as long as no entry stops it, t is on a dispatch queue or runs
abbrev pub WokenStayRunnable : Type 0
WokenStayRunnable =
    (w : Work) (es more : List Entry) (e : Entry) (t : ℕ) → IsRun w (es ++ e ∷ more) → is_wake_of t e.event ≡ true → NoneStops t more
    → runs_or_is_runnable (thread_of (final w (opening w) (es ++ e ∷ more)) t).place ≡ true

-- Threads that sleep.

-- the thread that an event puts to sleep, and its channel
abbrev pub put_to_sleep : Event → Option (ThreadId × ChanId)
put_to_sleep (Sleep t k) = Some (t, k)
put_to_sleep (CvWait t k l) = Some (t, k)
put_to_sleep (SemaWait t k) = Some (t, k)
put_to_sleep _ = None

-- no entry of the list wakes thread t
abbrev pub NoneWakes : ℕ → List Entry → Type 0
NoneWakes t es = All (λ e. woken_by e.event ≢ Some t) es

-- the channel of a wakeup that finds nobody asleep on it: a wake of nobody, or a semaphore that is counted up
abbrev pub finds_nobody : Event → Option ChanId
finds_nobody (Wake t k None) = Some k
finds_nobody (SemaVCount t k m) = Some k
finds_nobody _ = None

-- no entry of the list is a wakeup of channel k that finds nobody
abbrev pub NoneFindsNobody : ChanId → List Entry → Type 0
NoneFindsNobody k es = All (λ e. finds_nobody e.event ≢ Some k) es

-- from an entry that puts thread t to sleep on channel k, as long as no entry wakes it, t is asleep on k, with the key of
-- that entry; and no wakeup of k finds nobody
abbrev pub SleepersSleepUntilWoken : Type 0
SleepersSleepUntilWoken =
    (w : Work) (es more : List Entry) (e : Entry) (t : ThreadId) (k : ChanId) → IsRun w (es ++ e ∷ more) → put_to_sleep e.event ≡ Some (t, k) → NoneWakes t.0 more
    → ((thread_of (final w (opening w) (es ++ e ∷ more)) t.0).place ≡ Asleep k (back_key e.number)) × NoneFindsNobody k more

-- no entry of the list is a wake of channel k that wakes nobody
abbrev pub NoWakeOfNone : ChanId → List Entry → Type 0
NoWakeOfNone k es = All (λ e. (u : ThreadId) → e.event ≢ Wake u k None) es

-- the same of a condition variable: from the entry that gives up the mutex, as long as no entry wakes the thread, it is
-- asleep on the condition variable, and no `wake` of that wakes nobody
abbrev pub WaitersSleepUntilWoken : Type 0
WaitersSleepUntilWoken =
    (w : Work) (es more : List Entry) (e : Entry) (t : ThreadId) (k : ChanId) (m : LockId) → IsRun w (es ++ e ∷ more) → e.event ≡ CvWait t k m → NoneWakes t.0 more
    → ((thread_of (final w (opening w) (es ++ e ∷ more)) t.0).place ≡ Asleep k (back_key e.number)) × NoWakeOfNone k more

-- Semaphores.

-- an entry that takes semaphore k without a sleep
abbrev pub is_taken : ℕ → Event → Bool
is_taken k (SemaP t j) = j.0 == k
is_taken k _ = false

-- an entry that counts semaphore k up, and wakes nobody
abbrev pub is_counted_up : ℕ → Event → Bool
is_counted_up k (SemaVCount t j m) = j.0 == k
is_counted_up k _ = false

-- the first count of a declared semaphore; 0 of another channel
abbrev pub declared_count : Work → ℕ → ℕ
declared_count w k = slice_index_or (map first_count w.chans) k 0

-- the count of a semaphore is its first count, and the entries that counted it up, less those that took it without a sleep
abbrev pub SemaphoresAreCounted : Type 0
SemaphoresAreCounted =
    (w : Work) (es : List Entry) (k : ℕ) → IsRun w es
    → count_of (final w (opening w) es) k + entries_of (is_taken k) es ≡ declared_count w k + entries_of (is_counted_up k) es

-- the kind of a declared channel
abbrev pub chan_kind : Work → ℕ → Option ChanKind
chan_kind w k = slice_get (map (λ x. x.1) w.chans) k

-- where a thread sleeps on a semaphore, its count is 0; what is no semaphore has always a count of 0
pub record SleepersWaitAtZero (w : Work) (s : State) : Type 0 where
  pub asleep : (t : ℕ) (k : ChanId) (key : ℤ) → (thread_of s t).place ≡ Asleep k key → count_of s k.0 ≡ 0
  pub uncounted : (k : ℕ) → is_sema (chan_kind w k) ≡ false → count_of s k ≡ 0

-- the operations that ask for semaphore k, and those that give it
abbrev pub is_sema_p : ℕ → Op → Bool
is_sema_p k (SemaPOp j) = j.0 == k
is_sema_p k _ = false

abbrev pub is_sema_v : ℕ → Op → Bool
is_sema_v k (SemaVOp j) = j.0 == k
is_sema_v k _ = false

-- how many operations that pass a test are over, of all scripts
abbrev pub ops_done : (Op → Bool) → Work → State → ℕ
ops_done test w s = sum_by (λ t. count_by test (take (thread_of s t).body.op (script_of w t))) (thread_numbers w)

-- how many threads sleep on channel k
abbrev pub sleepers_on : Work → State → ℕ → ℕ
sleepers_on w s k = count_by (λ t. is_asleep k (thread_of s t).place) (thread_numbers w)

-- the count of a semaphore and the operations that asked for it are its first count, the operations that gave it and the
-- threads that sleep on it; an operation that asks is over where its thread sleeps
abbrev pub SemaphoresBalance : Work → State → Type 0
SemaphoresBalance w s =
    (k : ℕ) → is_sema (chan_kind w k) ≡ true
    → count_of s k + ops_done (is_sema_p k) w s ≡ declared_count w k + ops_done (is_sema_v k) w s + sleepers_on w s k

-- so the count of a semaphore is at most its first count and the operations that gave it
abbrev pub SemaphoresAreBounded : Work → State → Type 0
SemaphoresAreBounded w s = (k : ℕ) → count_of s k ≤ declared_count w k + ops_done (is_sema_v k) w s

-- no entry of the list hands semaphore k to thread t
abbrev pub NoneHands : ChanId → ThreadId → List Entry → Type 0
NoneHands k t es = All (λ e. (u : ThreadId) (at : Put) → e.event ≢ SemaVWake u k t at) es

-- from an entry where thread t goes to sleep on semaphore k, as long as no `semav` hands k to it, t is asleep on k, and no
-- `semav` of k counts it up
abbrev pub SemaphoreWaitersSleepUntilHanded : Type 0
SemaphoreWaitersSleepUntilHanded =
    (w : Work) (es more : List Entry) (e : Entry) (t : ThreadId) (k : ChanId) → IsRun w (es ++ e ∷ more) → e.event ≡ SemaWait t k → NoneHands k t more
    → ((thread_of (final w (opening w) (es ++ e ∷ more)) t.0).place ≡ Asleep k (back_key e.number)) × NoneFindsNobody k more
