-- The boxes of a queue as a list.
use Rattle.std.specs.Prelude.{◌≡◌, ℕ, suc, Bool, if◌then◌else◌, List, [], ◌∷◌, map, slice_get, Some}
use denote.RawPtr.{Ptr}
use Rattle.sd_boxq.specs.Links.{Link}

-- where a box lies, its index, and its item
abbrev pub BoxOf : Type 0 → Type 0
BoxOf T = Ptr × ℕ × T

-- the boxes with these links and items, the first of which has the index i
abbrev pub boxes_from : {T : Type 0} → ℕ → List Link → List T → List (BoxOf T)
boxes_from i [] xs = []
boxes_from i (l ∷ ls) [] = []
boxes_from i (l ∷ ls) (x ∷ xs) = (l.0, i, x) ∷ boxes_from (suc i) ls xs

-- their items
abbrev pub items_in : {T : Type 0} → List (BoxOf T) → List T
items_in = map (λ b. b.2)

-- the box with the index i lies at p
abbrev pub LiesAt : List Link → ℕ → Ptr → Type 0
LiesAt ls i p = slice_get (map (λ l. l.0) ls) i ≡ Some p

-- how many items stand before the first that passes the test p: its index, where there is one
abbrev pub count_before : {X : Type 0} → (X → Bool) → List X → ℕ
count_before p [] = 0
count_before p (x ∷ xs) = if p x then 0 else suc (count_before p xs)
