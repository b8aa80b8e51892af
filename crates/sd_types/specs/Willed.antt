-- The priorities that the owner of a lock inherits from its waiters, one number for each lock.
-- Source: Solaris Internals (turnstiles, priority inheritance).
use Rattle.std.specs.Prelude.{◌≡◌, ℕ, Bool, true, not, List, [], ◌∷◌, ◌++◌, filter, nat_lt, Option, Some, None, if◌then◌else◌}
use Rattle.std.specs.List.{list_all}
use Rattle.sd_types.specs.declared.numbers.LockId.{LockId}
use Rattle.sd_types.specs.declared.bodies.ThreadBody.{ThreadBody}
use Rattle.sd_types.specs.Scripts.{is_lock, is_held, without_lock}
use Rattle.sd_types.specs.Priorities.{eff}
use Rattle.sd_types.specs.Works.{is_distinct}

abbrev pub Numbers : Type 0
Numbers = List (LockId × ℕ)

-- the number for a lock, if there is one
abbrev pub number_for : LockId → Numbers → Option ℕ
number_for l [] = None
number_for l (w ∷ ws) = if is_lock l w.0 then Some w.1 else number_for l ws

-- the numbers with this one for the lock: instead of the one that there was, or at the end
abbrev pub with_number : LockId → ℕ → Numbers → Numbers
with_number l n [] = (l, n) ∷ []
with_number l n (w ∷ ws) = if is_lock l w.0 then ((l, n) ∷ ws) else (w ∷ with_number l n ws)

-- the numbers without that for the lock
abbrev pub without_number : LockId → Numbers → Numbers
without_number l ws = filter (λ w. not (is_lock l w.0)) ws

-- the numbers with this one for the lock, or with none for it
abbrev pub changed_number : LockId → Option ℕ → Numbers → Numbers
changed_number l None ws = without_number l ws
changed_number l (Some n) ws = with_number l n ws

-- the thread with these numbers
abbrev pub with_willed : Numbers → ThreadBody → ThreadBody
with_willed ws b = record b { willed = record { items = ws } }

-- the effective priority that the thread would have with this number for the lock, or with none for it
abbrev pub eff_with : LockId → Option ℕ → ThreadBody → ℕ
eff_with l n b = eff (with_willed (changed_number l n b.willed.items) b)

-- the thread with the lock at the end of those that it holds
abbrev pub with_lock : LockId → ThreadBody → ThreadBody
with_lock l b = record b { held = record { items = b.held.items ++ l ∷ [] } }

-- the thread without the lock and without the number for it
abbrev pub released : LockId → ThreadBody → ThreadBody
released l b =
    record b { held = record { items = without_lock l b.held.items }; willed = record { items = without_number l b.willed.items } }

-- two numbers are for one lock
abbrev pub same_lock : LockId × ℕ → LockId × ℕ → Bool
same_lock v w = is_lock v.0 w.0

-- inherited priorities are below 160 and for different locks that the thread holds, and no lock is held twice
pub record InheritsSoundly (b : ThreadBody) : Type 0 where
  pub below : list_all (λ w. nat_lt w.1 160) b.willed.items ≡ true
  pub apart : is_distinct same_lock b.willed.items ≡ true
  pub owned : list_all (λ w. is_held w.0 b.held.items) b.willed.items ≡ true
  pub held_once : is_distinct is_lock b.held.items ≡ true
