-- A list that is made item by item is another, so far.
use Rattle.std.proofs.Common.{◌≡◌, ℕ, ◌+◌, ◌<◌, ◌≤◌, List, [], ◌∷◌, ◌++◌, length, get_or, take, sym, ◌∙◌, arith}
use Rattle.std.proofs.lemmas.Grind.{take_at_read}
use Rattle.std.proofs.lemmas.List.{take_all}

pub one_more : {X : Type 0} (xs old new : List X) (i : ℕ) (x d : X) → i < length xs → old ≡ take i xs → x ≡ get_or xs i d → new ≡ old ++ x ∷ [] → new ≡ take (i + 1) xs
one_more xs old new i x d inside so_far is pushed = pushed ∙ ((λ j. so_far j ++ is j ∷ []) ∙ sym (take_at_read xs i d inside).1)

pub all_made : {X : Type 0} (xs made : List X) (i : ℕ) → i ≡ length xs → made ≡ take i xs → made ≡ xs
all_made xs made i end so_far = so_far ∙ take_all i xs (let e : length xs ≤ i = omega arith in e)
