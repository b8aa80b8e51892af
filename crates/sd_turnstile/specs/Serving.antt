-- The turnstiles that serve the locks of a chain, by the locks.
use Rattle.std.specs.Prelude.{◌≡◌, ℕ, ℤ, ◌+◌, ◌<◌, List, [], ◌∷◌, Option, None, Some, length, get_or, is_some, true}
use Rattle.sd_types.specs.declared.numbers.Side.{Side}
use Rattle.sd_boxq.specs.Order.{IsRanked, find_id}
use Rattle.sd_turnstile.specs.Waiters.{Waiters, nobody, IsIdle, waiter_count, find_among, on_side}

-- who stands on the turnstile that serves a lock
abbrev pub served : {T : Type 0} → Option (Waiters T) → Waiters T
served None = nobody
served (Some w) = w

-- the number of turnstiles that serve it
abbrev pub held : {T : Type 0} → Option (Waiters T) → ℕ
held None = 0
held (Some w) = 1

-- a lock with waiters, and no other, has a turnstile, and each side is in order of rank and key
abbrev pub IsServed : {T : Type 0} → (T → ℕ) → (T → ℤ) → Option (Waiters T) → Type 0
IsServed rank key None = Unit {0}
IsServed rank key (Some w) = (IsRanked rank key w.writers) × (IsRanked rank key w.readers) × (0 < waiter_count w)

abbrev pub AreServed : {T : Type 0} → (T → ℕ) → (T → ℤ) → List (Option (Waiters T)) → Type 0
AreServed rank key [] = Unit {0}
AreServed rank key (s ∷ ss) = IsServed rank key s × AreServed rank key ss

abbrev pub all_served : {T : Type 0} → List (Option (Waiters T)) → List (Waiters T)
all_served [] = []
all_served (s ∷ ss) = served s ∷ all_served ss

-- the number of turnstiles, and of waiters, of all locks
abbrev pub all_held : {T : Type 0} → List (Option (Waiters T)) → ℕ
all_held [] = 0
all_held (s ∷ ss) = held s + all_held ss

abbrev pub all_waiting : {T : Type 0} → List (Option (Waiters T)) → ℕ
all_waiting [] = 0
all_waiting (s ∷ ss) = waiter_count (served s) + all_waiting ss

-- each turnstile of a rack has empty queues
abbrev pub AreIdle : {T : Type 0} → List (Waiters T) → Type 0
AreIdle [] = Unit {0}
AreIdle (w ∷ ws) = IsIdle w × AreIdle ws

-- the turnstile that serves the lock at index i
abbrev pub slot_at : {T : Type 0} → List (Option (Waiters T)) → ℕ → Option (Waiters T)
slot_at ss i = get_or ss i None

-- the first waiter with the id n waits at a side of the lock at index i
abbrev pub IsHolder : {T : Type 0} → (T → ℕ) → ℕ → List (Option (Waiters T)) → ℕ → Side → Type 0
IsHolder id n ss i side =
    (i < length ss) × (is_some (find_among id n (all_served ss)) ≡ true) × (find_id id n (on_side (served (slot_at ss i)) side) ≡ find_among id n (all_served ss))
