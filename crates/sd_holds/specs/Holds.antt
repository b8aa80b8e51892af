-- The holds of locks, from the entries of a run.
-- Source: Solaris Internals (mutexes and readers/writer locks; a readers/writer lock is handed to its next holders, a mutex is
-- taken by whoever asks first); what is listed is this project's own.
use Rattle.std.specs.Prelude.{ℕ, Bool, false, ◌&&◌, ◌==◌, List, [], ◌∷◌, ◌++◌, filter, Option, Some, None}
use Rattle.sd_types.specs.declared.numbers.LockId.{LockId}
use Rattle.sd_types.specs.declared.numbers.ThreadId.{ThreadId}
use Rattle.sd_types.specs.declared.events.Event.{Event}
use Rattle.sd_types.specs.declared.events.Event.TheVariants.{Enter, Read, Write, Grant, Exit, CvWait}
use Rattle.sd_stretches.specs.declared.changes.Happening.{Happening}
use Rattle.sd_stretches.specs.Rows.{next_of}
use Rattle.sd_holds.specs.declared.holdings.Hold.{Hold}

-- the thread that becomes a holder by an event, and the lock: it takes the lock, or is handed it
abbrev pub taken : Event → Option (ThreadId × LockId)
taken (Enter t l) = Some (t, l)
taken (Read t l) = Some (t, l)
taken (Write t l) = Some (t, l)
taken (Grant l u at) = Some (u, l)
taken _ = None

-- thread t gives lock l up: it leaves it, or waits for a condition
abbrev pub gives_up : ThreadId → LockId → Event → Bool
gives_up t l (Exit u m) = u.0 == t.0 && m.0 == l.0
gives_up t l (CvWait u k m) = u.0 == t.0 && m.0 == l.0
gives_up t l _ = false

-- the first of these entries by which t gives l up
abbrev pub end_of : ThreadId → LockId → List Happening → Option Happening
end_of t l xs = next_of (filter (λ x. gives_up t l x.event) xs)

-- from an entry to that one, or to the end of the run
abbrev pub hold_to : ThreadId → LockId → ℕ → Happening → Option Happening → Hold
hold_to t l end x None = record { thread = t; lock = l; taken = x.entry; given = None; from = x.tick; to = end }
hold_to t l end x (Some y) = record { thread = t; lock = l; taken = x.entry; given = Some y.entry; from = x.tick; to = y.tick }

abbrev pub hold_if : ℕ → Happening → List Happening → Option (ThreadId × LockId) → List Hold
hold_if end x rest None = []
hold_if end x rest (Some h) = hold_to h.0 h.1 end x (end_of h.0 h.1 rest) ∷ []

-- the holds that these entries begin, of a run that ended at this tick
unfoldable pub holds : ℕ → List Happening → List Hold
holds end [] = []
holds end (x ∷ xs) = hold_if end x xs (taken x.event) ++ holds end xs
