-- The first item of a list is the first that passes a test, where it passes.
use Rattle.std.proofs.Common.{◌≡◌, Bool, true, List, [], ◌∷◌, slice_get, Some, None, refl, sym, ap, ◌∙◌}
use Rattle.sd_boxq.specs.Order.{find_first}

pub none_first : {X : Type 0} (p : X → Bool) (xs : List X) → None ≡ slice_get xs 0 → None ≡ find_first p xs
none_first p [] e = refl
none_first p (x ∷ xs) e = absurd cc

pub some_first : {X : Type 0} (p : X → Bool) (x : X) (xs : List X) → Some x ≡ slice_get xs 0 → p x ≡ true → Some x ≡ find_first p xs
some_first p x [] e here = absurd cc
some_first p x (y ∷ xs) e here = let one : x ≡ y = cc in let passes : p y ≡ true = ap p (sym one) ∙ here in rw passes e
