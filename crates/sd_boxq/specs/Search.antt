-- Which items a search looks for, and what it finds.
use Rattle.std.specs.Prelude.{◌≡◌, ◌↔◌, ◌<◌, ℕ, suc, ℤ, Bool, IsTrue, ◌==◌, ◌&&◌, ◌||◌, nat_lt, int_lt, List, length, Option, Some, None}
use Rattle.sd_boxq.specs.declared.nodes.cursor.Spot.{Spot}
use Rattle.sd_boxq.specs.declared.search.Found.{Found}
use Rattle.sd_boxq.specs.declared.search.Wanted.{Wanted}
use Rattle.sd_boxq.specs.declared.search.Wanted.TheVariants.{BehindRanked, BehindKey, BehindKeyed, Id, Below}
use Rattle.sd_boxq.specs.Links.{Link}
use Rattle.sd_boxq.specs.Boxes.{LiesAt}
use Rattle.sd_boxq.specs.Order.{precedes_by_key, precedes_keyed}

-- an item of the rank r and the key k precedes y by them
abbrev pub precedes_by : {T : Type 0} → (T → ℕ) → (T → ℤ) → ℕ → ℤ → T → Bool
precedes_by rank key r k y = nat_lt (rank y) r || ((r == rank y) && int_lt k (key y))

abbrev pub is_wanted : {T : Type 0} → (T → ℕ) → (T → ℤ) → (T → ℕ) → Wanted T → T → Bool
is_wanted rank key id (BehindRanked r k) = precedes_by rank key r k
is_wanted rank key id (BehindKey x) = precedes_by_key key x.now
is_wanted rank key id (BehindKeyed x) = precedes_keyed key id x.now
is_wanted rank key id (Id n) = λ y. id y == n
is_wanted rank key id (Below k) = λ y. int_lt (key y) k

-- the index behind the last box that was passed
abbrev pub index_behind : {T : Type 0} → Option (Spot T) → ℕ
index_behind None = 0
index_behind (Some s) = suc s.index

-- that box is one of those with these links
abbrev pub IsBefore : {T : Type 0} → List Link → Option (Spot T) → Type 0
IsBefore ls None = Unit {0}
IsBefore ls (Some s) = LiesAt ls s.index s.at

-- of the boxes with these links and items the one with the index k, or none where k is behind them all
abbrev pub IsFound : {T : Type 0} → List Link → List T → ℕ → Option (Found T) → Type 0
IsFound ls xs k None = k ≡ length xs
IsFound ls xs k (Some f) = (f.spot.index ≡ k) × LiesAt ls f.spot.index f.spot.at × (k < length xs) × (IsTrue f.is_last ↔ (suc k ≡ length xs))
