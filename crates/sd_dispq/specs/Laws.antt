-- What holds of lists in order of rank and key.
use Rattle.std.specs.Prelude.{◌≡◌, ℕ, ℤ, ◌<ℤ◌, true, List, [], ◌∷◌, drop, IfSome}
use Rattle.sd_boxq.specs.Order.{precedes, insert_ranked, find_id, drop_id, replace_id, IsAlike, IsBest, IsRanked}
use Rattle.sd_dispq.specs.Ranks.{put_front, put_back}

-- each key is smaller than k
abbrev pub KeysBelow : {X : Type 0} → (X → ℤ) → ℤ → List X → Type 0
KeysBelow key k [] = Unit {0}
KeysBelow key k (x ∷ xs) = (key x <ℤ k) × KeysBelow key k xs

-- each key is greater than k
abbrev pub KeysAbove : {X : Type 0} → (X → ℤ) → ℤ → List X → Type 0
KeysAbove key k [] = Unit {0}
KeysAbove key k (x ∷ xs) = (k <ℤ key x) × KeysAbove key k xs

abbrev pub BackIsRanked : {X : Type 0} → (X → ℕ) → (X → ℤ) → Type 0
BackIsRanked {X = X} rank key = (x : X) (xs : List X) → KeysBelow key (key x) xs → put_back rank x xs ≡ insert_ranked rank key x xs

abbrev pub FrontIsRanked : {X : Type 0} → (X → ℕ) → (X → ℤ) → Type 0
FrontIsRanked {X = X} rank key = (x : X) (xs : List X) → KeysAbove key (key x) xs → put_front rank x xs ≡ insert_ranked rank key x xs

abbrev pub FirstIsBest : {X : Type 0} → (X → ℕ) → (X → ℤ) → Type 0
FirstIsBest {X = X} rank key = (x : X) (xs : List X) → IsRanked rank key (x ∷ xs) → IsBest (λ _. true) (precedes rank key) x (x ∷ xs)

pub record OrderIsKept {X : Type 0} (rank : X → ℕ) (key : X → ℤ) (id : X → ℕ) : Type 0 where
  pub inserted : (x : X) (xs : List X) → IsRanked rank key xs → IsRanked rank key (insert_ranked rank key x xs)
  pub first_left : (xs : List X) → IsRanked rank key xs → IsRanked rank key (drop 1 xs)
  pub left : (n : ℕ) (xs : List X) → IsRanked rank key xs → IsRanked rank key (drop_id id n xs)
  pub replaced : (n : ℕ) (x : X) (xs : List X) → IfSome (find_id id n xs) (λ y. IsAlike rank key id y x) → IsRanked rank key xs → IsRanked rank key (replace_id id n x xs)
