-- The rows of locks: who holds each and how long, who waits and spins for it, and how often it hands priority on.
-- Source: Solaris Internals (mutexes, readers-writer locks, turnstiles), lockstat(1M); the rows are this project's own.
use Rattle.std.specs.Prelude.{ℕ, Bool, false, ◌||◌, ◌==◌, List, [], ◌∷◌, ◌++◌, length, filter, count_by, Option, Some, None, if◌then◌else◌}
use Rattle.std.specs.List.{flat_map, range_with_len}
use Rattle.sd_types.specs.declared.numbers.LockId.{LockId}
use Rattle.sd_types.specs.declared.numbers.ThreadId.{ThreadId}
use Rattle.sd_types.specs.declared.events.Event.{Event}
use Rattle.sd_types.specs.declared.events.Event.TheVariants.{Enter, Read, Write, Grant, Exit, CvWait, Spin, Block}
use Rattle.sd_types.specs.declared.works.Work.{Work}
use Rattle.sd_stretches.specs.declared.changes.HandOver.{HandOver}
use Rattle.sd_stretches.specs.declared.changes.Happening.{Happening}
use Rattle.sd_stretches.specs.declared.histories.History.{History}
use Rattle.sd_stretches.specs.declared.rows.Stretch.{Stretch}
use Rattle.sd_stretches.specs.declared.spin_pieces.Track.TheVariants as track
use Rattle.sd_stretches.specs.Rows.{next_of}
use Rattle.sd_stretches.specs.Changes.{is_that_thread}
use Rattle.sd_stretches.specs.SpinPieces.{pieces}
use Rattle.sd_statistics.specs.declared.activities.Activity.TheVariants.{Spinning, SpinningFor, Waiting, WaitingFor}
use Rattle.sd_statistics.specs.declared.rows.Measure.{Measure}
use Rattle.sd_statistics.specs.declared.rows.Measure.TheVariants.{Contended, Does, HandsOn, Held}
use Rattle.sd_statistics.specs.declared.rows.Row.{Row}
use Rattle.sd_statistics.specs.declared.rows.Subject.TheVariants as subject
use Rattle.sd_statistics.specs.declared.spans.Span.{Span}
use Rattle.sd_statistics.specs.Activities.{spans_of}
use Rattle.sd_statistics.specs.Rows.{all_of, count_figures, row_if}
use Rattle.sd_statistics.specs.Spans.{state_after, summary_of}

-- The entries that take a lock, give it up, or find it taken.

-- who takes a lock
abbrev pub taking : Event → Option ThreadId
taking (Enter t l) = Some t
taking (Read t l) = Some t
taking (Write t l) = Some t
taking (Grant l u at) = Some u
taking _ = None

-- who gives a lock up
abbrev pub giving : Event → Option ThreadId
giving (Exit t l) = Some t
giving (CvWait t k l) = Some t
giving _ = None

-- who spins or begins to wait for a lock
abbrev pub trying : Event → Option ThreadId
trying (Spin t l) = Some t
trying (Block t l) = Some t
trying _ = None

-- the lock of which an entry of these three kinds is
abbrev pub lock_of : Event → Option LockId
lock_of (Enter t l) = Some l
lock_of (Read t l) = Some l
lock_of (Write t l) = Some l
lock_of (Grant l u at) = Some l
lock_of (Exit t l) = Some l
lock_of (CvWait t k l) = Some l
lock_of (Spin t l) = Some l
lock_of (Block t l) = Some l
lock_of _ = None

abbrev pub is_lock : ℕ → Option LockId → Bool
is_lock l None = false
is_lock l (Some m) = m.0 == l

abbrev pub is_about : ℕ → Happening → Bool
is_about l x = is_lock l (lock_of x.event)

-- the entries of lock l
unfoldable pub lock_entries : ℕ → List Happening → List Happening
lock_entries l xs = filter (is_about l) xs

-- Who holds the lock: from each entry that takes it up to the first behind it by which the thread gives it up, or the end of the run.

abbrev pub gives : ThreadId → Happening → Bool
gives t x = is_that_thread t (giving x.event)

abbrev pub hold_to : ℕ → ℕ → Happening → ThreadId → Option Happening → Span
hold_to entries end x t None = record { thread = t.0; first = state_after x.entry; last = entries; from = x.tick; to = end }
hold_to entries end x t (Some y) = record { thread = t.0; first = state_after x.entry; last = y.entry; from = x.tick; to = y.tick }

abbrev pub hold_by : ℕ → ℕ → Happening → List Happening → Option ThreadId → List Span
hold_by entries end x rest None = []
hold_by entries end x rest (Some t) = hold_to entries end x t (next_of (filter (gives t) rest)) ∷ []

-- from the entries of one lock, in a run of so many entries, which ended at this tick
unfoldable pub holds_of : ℕ → ℕ → List Happening → List Span
holds_of entries end [] = []
holds_of entries end (x ∷ xs) = hold_by entries end x xs (taking x.event) ++ holds_of entries end xs

-- When a taking is contended: the thread's entry of the lock before it says that it spins or waits for it.

abbrev pub wants : ThreadId → Happening → Bool
wants t x = is_that_thread t (taking x.event) || is_that_thread t (trying x.event)

-- from the entry that found the lock taken up to the one that takes it
abbrev pub wait_to : Happening → ThreadId → Option Happening → List Span
wait_to x t None = []
wait_to x t (Some y) =
    if is_that_thread t (taking y.event) then record { thread = t.0; first = state_after x.entry; last = y.entry; from = x.tick; to = y.tick } ∷ [] else []

abbrev pub wait_by : Happening → List Happening → Option ThreadId → List Span
wait_by x rest None = []
wait_by x rest (Some t) = wait_to x t (next_of (filter (wants t) rest))

-- one for each contended taking, from the entries of one lock
unfoldable pub contended_of : List Happening → List Span
contended_of [] = []
contended_of (x ∷ xs) = wait_by x xs (trying x.event) ++ contended_of xs

-- The rows.

abbrev pub lock_row : ℕ → Measure → List Span → List Row
lock_row l m spans = row_if (record { subject = subject.Lock (record { 0 = l }); measure = m; figures = all_of (summary_of spans) })

abbrev pub lock_count : ℕ → Measure → ℕ → List Row
lock_count l m n = row_if (record { subject = subject.Lock (record { 0 = l }); measure = m; figures = count_figures n })

-- how often it is taken and how long held, and how often it was taken before
unfoldable pub held_rows : Work → ℕ → ℕ → List Happening → List Row
held_rows w entries l own =
    lock_row l Held (holds_of entries w.limit own) ++ lock_count l Contended (length (contended_of own))

-- how long threads wait and spin for it, from the pieces of all their stretches
unfoldable pub wait_rows : ℕ → List Stretch → List Row
wait_rows l all = lock_row l (Does Waiting) (spans_of (WaitingFor (record { 0 = l })) all) ++ lock_row l (Does Spinning) (spans_of (SpinningFor (record { 0 = l })) all)

-- how often its owner is given the priority of its waiters
abbrev pub hand_overs : ℕ → List HandOver → ℕ
hand_overs l xs = count_by (λ x. x.lock.0 == l) xs

unfoldable pub lock_part : Work → History → List Stretch → ℕ → List Row
lock_part w h all l =
    held_rows w h.entries l (lock_entries l h.happenings.items) ++ wait_rows l all ++ lock_count l HandsOn (hand_overs l h.hand_overs.items)

-- the pieces of the stretches of all threads
unfoldable pub all_pieces : Work → History → List Stretch
all_pieces w h = flat_map (λ t. pieces (track.Thread t) h w.limit) (range_with_len 0 (length w.threads))

-- the rows of all locks
unfoldable pub lock_rows : Work → History → List Row
lock_rows w h = flat_map (lock_part w h (all_pieces w h)) (range_with_len 0 (length w.locks))
