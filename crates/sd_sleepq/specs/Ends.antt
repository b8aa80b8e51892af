-- A place in the order of rank and key, by its rank r and its key k, and the items that stand behind it.
-- Source: this project's own.
use Rattle.std.specs.Prelude.{ℕ, ℤ, Bool, ◌&&◌, ◌||◌, ◌==◌, nat_lt, int_lt, int_le, List}
use Rattle.sd_boxq.specs.Order.{IsNowhere}

abbrev pub is_behind : {X : Type 0} → (X → ℕ) → (X → ℤ) → ℕ → ℤ → X → Bool
is_behind rank key r k y = nat_lt (rank y) r || ((r == rank y) && int_lt k (key y))

-- an item of this rank and key does not precede the place
abbrev pub is_at_end : ℕ → ℤ → ℕ → ℤ → Bool
is_at_end r k rank key = nat_lt rank r || ((rank == r) && int_le k key)

-- no item stands behind the place
abbrev pub EndsBy : {X : Type 0} → (X → ℕ) → (X → ℤ) → ℕ → ℤ → List X → Type 0
EndsBy rank key r k xs = IsNowhere (is_behind rank key r k) xs
