-- Where an item comes to stand in a dispatch queue.
-- Source: Solaris Internals, setfrontdq and setbackdq.
use Rattle.std.specs.Prelude.{ℕ, nat_lt, nat_le, max, Option, None, Some, List, slice_get}
use Rattle.std.specs.Option.{option_map}
use Rattle.sd_boxq.specs.Order.{insert_before, IsInOrder}

-- before all items of its rank
abbrev pub put_front : {X : Type 0} → (X → ℕ) → X → List X → List X
put_front rank x xs = insert_before (λ y. nat_le (rank y) (rank x)) x xs

-- behind all items of its rank
abbrev pub put_back : {X : Type 0} → (X → ℕ) → X → List X → List X
put_back rank x xs = insert_before (λ y. nat_lt (rank y) (rank x)) x xs

-- no item stands behind one of a smaller rank
abbrev pub IsByRank : {X : Type 0} → (X → ℕ) → List X → Type 0
IsByRank rank xs = IsInOrder (λ x y. nat_lt (rank y) (rank x)) xs

-- the rank of the first item
abbrev pub greatest_rank : {X : Type 0} → (X → ℕ) → List X → Option ℕ
greatest_rank rank xs = option_map rank (slice_get xs 0)

-- the greatest rank once an item of rank r has come
abbrev pub raised : Option ℕ → ℕ → Option ℕ
raised None r = Some r
raised (Some other) r = Some (max other r)
