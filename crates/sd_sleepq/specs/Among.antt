-- An item by its id among several queues.
use Rattle.std.specs.Prelude.{◌≡◌, ℕ, ℤ, ◌<◌, true, Option, None, is_some, List, [], ◌∷◌, length, get_or}
use Rattle.std.specs.Option.{option_or}
use Rattle.sd_boxq.specs.Order.{find_id, IsRanked}

-- the first item with the id n of the first queue that has one
abbrev pub find_among : {X : Type 0} → (X → ℕ) → ℕ → List (List X) → Option X
find_among id n [] = None
find_among id n (q ∷ qs) = option_or (find_id id n q) (find_among id n qs)

-- each queue stands in order of rank and key
abbrev pub AreRanked : {X : Type 0} → (X → ℕ) → (X → ℤ) → List (List X) → Type 0
AreRanked rank key [] = Unit {0}
AreRanked rank key (q ∷ qs) = IsRanked rank key q × AreRanked rank key qs

-- the queue at index i is the first that has an item with the id n
abbrev pub IsHolder : {X : Type 0} → (X → ℕ) → ℕ → List (List X) → ℕ → Type 0
IsHolder id n qs i =
    (i < length qs) × (is_some (find_id id n (get_or qs i [])) ≡ true) × ((j : ℕ) → j < i → find_id id n (get_or qs j []) ≡ None)
