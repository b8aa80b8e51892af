-- The waiters of locks (Solaris Internals, turnstiles), as contracts see them.
-- That chains have locks of one residue modulo 64 is this project's own.
use Rattle.std.specs.Prelude.{◌≡◌, ◌≢◌, ℕ, ℤ, ◌+◌, ◌<◌, ◌/◌, ◌%◌, max, true, is_some, List, [], ◌∷◌, ◌++◌, length, get_or, set, Option, None, Some}
use Rattle.std.specs.Option.{option_or}
use Rattle.sd_types.specs.declared.numbers.Side.{Side}
use Rattle.sd_types.specs.declared.numbers.Side.TheVariants.{Writer, Reader}
use Rattle.sd_boxq.specs.Order.{find_id, drop_id, IsRanked}

-- the waiters of one lock, on its two sides
pub record Waiters (T : Type 0) : Type 0 where
  pub writers : List T
  pub readers : List T

abbrev pub nobody : {T : Type 0} → Waiters T
nobody = record { writers = []; readers = [] }

abbrev pub IsIdle : {T : Type 0} → Waiters T → Type 0
IsIdle w = (w.writers ≡ []) × (w.readers ≡ [])

abbrev pub on_side : {T : Type 0} → Waiters T → Side → List T
on_side w Writer = w.writers
on_side w Reader = w.readers

abbrev pub with_side : {T : Type 0} → Waiters T → Side → List T → Waiters T
with_side w Writer xs = record w { writers = xs }
with_side w Reader xs = record w { readers = xs }

abbrev pub waiter_count : {T : Type 0} → Waiters T → ℕ
waiter_count w = length w.writers + length w.readers

-- a chain: its number, and the waiters of its locks in the order of the locks
pub record Blocked (T : Type 0) : Type 0 where
  pub chain : ℕ
  pub locks : List (Waiters T)

-- the lock l is one of this chain
abbrev pub IsOfChain : {T : Type 0} → Blocked T → ℕ → Type 0
IsOfChain c l = (l < 256) × (l % 64 ≡ c.chain)

-- who waits for the lock l
abbrev pub of_lock : {T : Type 0} → Blocked T → ℕ → Waiters T
of_lock c l = get_or c.locks (l / 64) nobody

abbrev pub waiters_at : {T : Type 0} → Blocked T → ℕ → Side → List T
waiters_at c l side = on_side (of_lock c l) side

-- the chain with these waiters for the lock l at a side
abbrev pub with_waiters : {T : Type 0} → Blocked T → ℕ → Side → List T → Blocked T
with_waiters c l side xs = record c { locks = set c.locks (l / 64) (with_side (of_lock c l) side xs) }

-- each side of each lock stands in order of rank and key
abbrev pub AreRanked : {T : Type 0} → (T → ℕ) → (T → ℤ) → Blocked T → Type 0
AreRanked {T = T} rank key c = (l : ℕ) (side : Side) → IsRanked rank key (waiters_at c l side)

-- who waits for the locks of a chain once a side of a lock has other waiters
pub record AreApart {T : Type 0} (c : Blocked T) : Type 0 where
  pub of_lock_here : (l : ℕ) (side : Side) (xs : List T) → IsOfChain c l → of_lock (with_waiters c l side xs) l ≡ with_side (of_lock c l) side xs
  pub here : (l : ℕ) (side : Side) (xs : List T) → IsOfChain c l → waiters_at (with_waiters c l side xs) l side ≡ xs
  pub other_side : (l : ℕ) (side other : Side) (xs : List T) → IsOfChain c l → other ≢ side → waiters_at (with_waiters c l side xs) l other ≡ waiters_at c l other
  pub other_locks : (l m : ℕ) (side : Side) (xs : List T) → IsOfChain c l → IsOfChain c m → m ≢ l → of_lock (with_waiters c l side xs) m ≡ of_lock c m
  pub same : (l : ℕ) (side : Side) → IsOfChain c l → with_waiters c l side (waiters_at c l side) ≡ c
  pub again : (l : ℕ) (side : Side) (xs ys : List T) → IsOfChain c l → with_waiters (with_waiters c l side xs) l side ys ≡ with_waiters c l side ys

-- the greater of two ranks, where there are any
abbrev pub higher : Option ℕ → Option ℕ → Option ℕ
higher None o = o
higher (Some r) None = Some r
higher (Some r) (Some s) = Some (max r s)

-- the greatest rank in a list, and none of an empty one
abbrev pub highest : {X : Type 0} → (X → ℕ) → List X → Option ℕ
highest rank [] = None
highest rank (x ∷ xs) = higher (Some (rank x)) (highest rank xs)

-- the greatest rank of all waiters of a lock
abbrev pub highest_waiter : {X : Type 0} → (X → ℕ) → Waiters X → Option ℕ
highest_waiter rank w = highest rank (w.writers ++ w.readers)

-- the waiters once the first one with the id n has left each side
abbrev pub without_id : {X : Type 0} → (X → ℕ) → ℕ → Waiters X → Waiters X
without_id id n w = record { writers = drop_id id n w.writers; readers = drop_id id n w.readers }

-- the first waiter with the id n, by lock, and of one lock the writers before the readers
abbrev pub find_in : {X : Type 0} → (X → ℕ) → ℕ → Waiters X → Option X
find_in id n w = option_or (find_id id n w.writers) (find_id id n w.readers)

abbrev pub find_among : {X : Type 0} → (X → ℕ) → ℕ → List (Waiters X) → Option X
find_among id n [] = None
find_among id n (w ∷ ws) = option_or (find_in id n w) (find_among id n ws)

-- there is one with the id n, and the first waits for the lock l at a side
pub record WaitsThere {T : Type 0} (id : T → ℕ) (n : ℕ) (c : Blocked T) (l : ℕ) (side : Side) : Type 0 where
  pub of_chain : IsOfChain c l
  pub some : is_some (find_among id n c.locks) ≡ true
  pub here : find_id id n (waiters_at c l side) ≡ find_among id n c.locks

-- x, who waits for the lock l at a side and is the first with the id n, has left
pub record Leaves {T : Type 0} (id : T → ℕ) (n : ℕ) (old : Blocked T) (l : ℕ) (side : Side) (x : T) (new : Blocked T) : Type 0 where
  pub of_chain : IsOfChain old l
  pub first : find_among id n old.locks ≡ Some x
  pub here : find_id id n (waiters_at old l side) ≡ Some x
  pub rest : new ≡ with_waiters old l side (drop_id id n (waiters_at old l side))
