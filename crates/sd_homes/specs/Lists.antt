-- Lists of items that tell a rank, a key and an id: that each id, or each key, stands once.
-- Source: this project's own.
use Rattle.std.specs.Prelude.{◌≡◌, ◌≢◌, ℕ, ◌+◌, ℤ, pos, neg_ℤ, ◌≤ℤ◌, ◌<ℤ◌, List, [], ◌∷◌, None, ⊤}
use Rattle.sd_boxq.specs.Order.{find_id, IsRanked}
use Rattle.sd_state.specs.States.{first_back_key}

-- no two items have one id
abbrev pub IdsDiffer : {X : Type 0} → (X → ℕ) → List X → Type 0
IdsDiffer id [] = ⊤
IdsDiffer id (x ∷ xs) = (find_id id (id x) xs ≡ None) × IdsDiffer id xs

-- no item has this key
abbrev pub HasNoKey : {X : Type 0} → (X → ℤ) → ℤ → List X → Type 0
HasNoKey key k [] = ⊤
HasNoKey key k (x ∷ xs) = (key x ≢ k) × HasNoKey key k xs

-- no two items have one key
abbrev pub KeysOfItemsDiffer : {X : Type 0} → (X → ℤ) → List X → Type 0
KeysOfItemsDiffer key [] = ⊤
KeysOfItemsDiffer key (x ∷ xs) = HasNoKey key (key x) xs × KeysOfItemsDiffer key xs

-- a key that there may be after n entries
pub record IsKeyAfter (n : ℕ) (k : ℤ) : Type 0 where
  pub least : neg_ℤ (pos n) ≤ℤ k
  pub below : k <ℤ pos (first_back_key + n)

abbrev pub AreKeysAfter : {X : Type 0} → (X → ℤ) → ℕ → List X → Type 0
AreKeysAfter key n [] = ⊤
AreKeysAfter key n (x ∷ xs) = IsKeyAfter n (key x) × AreKeysAfter key n xs

-- a queue of a state after n entries: in order of rank and key, each key once, and each such a key
pub record IsQueue {X : Type 0} (rank : X → ℕ) (key : X → ℤ) (n : ℕ) (xs : List X) : Type 0 where
  pub ranked : IsRanked rank key xs
  pub apart : KeysOfItemsDiffer key xs
  pub after : AreKeysAfter key n xs
