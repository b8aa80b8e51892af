-- Lists over a range of numbers, and one number more.
use Rattle.std.proofs.Common.{◌≡◌, ℕ, ◌+◌, ◌<◌, Bool, List, [], ◌∷◌, ◌++◌, length, map, take, get_or, append_assoc, sym, ap, ◌∙◌}
use Rattle.std.specs.Prelude.{filter}
use Rattle.std.specs.List.{flat_map, range_with_len}
use Rattle.std.proofs.lemmas.List.{append-nil, map-append, take_more}
use Rattle.std.proofs.lemmas.List.Elements.{filter-append}
use Rattle.std.proofs.lemmas.List.Concat.{flat_map-append}
use Rattle.sd_basics.proofs.Ranges.{flat_range_more}

-- what a loop over a range has pushed, and one number more
pub range_pushed : {A : Type 0} (f : ℕ → List A) (n : ℕ) (start out pushed : List A) → out ≡ start ++ flat_map f (range_with_len 0 n) → pushed ≡ out ++ f n
    → pushed ≡ start ++ flat_map f (range_with_len 0 (n + 1))
range_pushed {A} f n start out pushed so_far more =
    more ∙ ap (λ (xs : List A). xs ++ f n) so_far ∙ append_assoc start (flat_map f (range_with_len 0 n)) (f n) ∙ ap (λ (xs : List A). start ++ xs) (sym (flat_range_more f n))

pub filter_take_more : {A : Type 0} (p : A → Bool) (xs : List A) (i : ℕ) (d : A) → i < length xs → filter p (take (i + 1) xs) ≡ filter p (take i xs) ++ filter p (get_or xs i d ∷ [])
filter_take_more p xs i d inside = ap (filter p) (take_more xs i d inside) ∙ filter-append p (take i xs) (get_or xs i d ∷ [])

pub map_take_more : {A B : Type 0} (f : A → B) (xs : List A) (i : ℕ) (d : A) → i < length xs → map f (take (i + 1) xs) ≡ map f (take i xs) ++ f (get_or xs i d) ∷ []
map_take_more f xs i d inside = ap (map f) (take_more xs i d inside) ∙ map-append f (take i xs) (get_or xs i d ∷ [])

-- what a loop over a list has pushed, and one element more
pub flat_take_more : {A B : Type 0} (f : A → List B) (xs : List A) (i : ℕ) (d : A) → i < length xs → flat_map f (take (i + 1) xs) ≡ flat_map f (take i xs) ++ f (get_or xs i d)
flat_take_more f xs i d inside =
    ap (flat_map f) (take_more xs i d inside) ∙ flat_map-append f (take i xs) (get_or xs i d ∷ []) ∙ ap (λ ys. flat_map f (take i xs) ++ ys) (append-nil (f (get_or xs i d)))

pub flat_map_take_more : {A B C : Type 0} (f : B → List C) (g : A → B) (xs : List A) (i : ℕ) (d : A) → i < length xs
    → flat_map f (map g (take (i + 1) xs)) ≡ flat_map f (map g (take i xs)) ++ f (g (get_or xs i d))
flat_map_take_more f g xs i d inside =
    ap (flat_map f) (map_take_more g xs i d inside) ∙ flat_map-append f (map g (take i xs)) (g (get_or xs i d) ∷ [])
    ∙ ap (λ ys. flat_map f (map g (take i xs)) ++ ys) (append-nil (f (g (get_or xs i d))))
