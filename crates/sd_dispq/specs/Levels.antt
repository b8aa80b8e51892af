-- The levels of a dispatch queue. Each holds the items of one rank, the level of the greatest rank
-- first, and so the queue is its levels one after another (Solaris Internals, dispatch queues).
use Rattle.std.specs.Prelude.{◌≡◌, ℕ, ◌<◌, ◌≤◌, List, [], ◌∷◌, ◌++◌, length, get_or, None, is_some, true}
use Rattle.sd_boxq.specs.Order.{find_id}

-- the items of all levels
abbrev pub all_of : {X : Type 0} → List (List X) → List X
all_of [] = []
all_of (l ∷ ls) = l ++ all_of ls

-- the level at index i, and none past the last
abbrev pub level_at : {X : Type 0} → List (List X) → ℕ → List X
level_at ls i = get_or ls i []

-- 1 for a level with an item, and 0 for an empty one
abbrev pub mark_of : {X : Type 0} → List X → ℕ
mark_of [] = 0
mark_of (x ∷ xs) = 1

-- each item has the rank r
abbrev pub HaveRank : {X : Type 0} → (X → ℕ) → ℕ → List X → Type 0
HaveRank rank r [] = Unit {0}
HaveRank rank r (x ∷ xs) = (rank x ≡ r) × HaveRank rank r xs

-- the last level has rank 0, and each other one more than the level behind it
abbrev pub IsLevelled : {X : Type 0} → (X → ℕ) → List (List X) → Type 0
IsLevelled rank [] = Unit {0}
IsLevelled rank (l ∷ ls) = HaveRank rank (length ls) l × IsLevelled rank ls

-- the level at index i is the first that is not empty, of those from m on
abbrev pub IsNextBusy : {X : Type 0} → List (List X) → ℕ → ℕ → Type 0
IsNextBusy ls m i = (m ≤ i) × (i < length ls) × (mark_of (level_at ls i) ≡ 1) × ((j : ℕ) → m ≤ j → j < i → level_at ls j ≡ [])

-- no level from m on has an item
abbrev pub AreIdleFrom : {X : Type 0} → List (List X) → ℕ → Type 0
AreIdleFrom ls m = (i : ℕ) → m ≤ i → level_at ls i ≡ []

-- the level at index i is the first that has an item with the id n
abbrev pub IsHolder : {X : Type 0} → (X → ℕ) → ℕ → List (List X) → ℕ → Type 0
IsHolder id n ls i = (i < length ls) × (is_some (find_id id n (level_at ls i)) ≡ true) × ((j : ℕ) → j < i → find_id id n (level_at ls j) ≡ None)
