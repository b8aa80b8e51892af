-- Loops over a list that go on with what follows its first element, and the first element that passes a test.
use Rattle.std.proofs.Common.{◌≡◌, ℕ, ◌+◌, ◌<◌, Bool, true, List, [], ◌∷◌, ◌++◌, length, take, drop, get_or, Some, sym, ap, ◌∙◌, append_assoc, arith}
use Rattle.std.specs.Prelude.{filter, if◌then◌else◌}
use Rattle.std.proofs.lemmas.List.{append-nil, take-append-drop}
use Rattle.std.proofs.lemmas.List.Elements.{filter-append}
use Rattle.sd_stretches.specs.Rows.{next_of}
use Rattle.sd_stretches.proofs.RangeLemmas.{filter_take_more}

-- more is found: f makes a list from each element with what follows it
pub found_more : {A B : Type 0} (f : List A → List B) (left rest : List A) (x : A) (ys found more all : List B) → f (x ∷ rest) ≡ ys ++ f rest → left ≡ x ∷ rest
    → found ++ f left ≡ all → more ≡ found ++ ys → more ++ f rest ≡ all
found_more f left rest x ys found more all makes is so_far pushed =
    ap (λ zs. zs ++ f rest) pushed ∙ append_assoc found ys (f rest) ∙ ap (λ zs. found ++ zs) (sym makes ∙ ap f (sym is)) ∙ so_far

-- no more is found
pub found_all : {A B : Type 0} (f : List A → List B) (left : List A) (found all : List B) → f [] ≡ [] → length left ≡ 0 → found ++ f left ≡ all → found ≡ all
found_all f [] found all none is so_far = sym (append-nil found) ∙ ap (λ ys. found ++ ys) (sym none) ∙ so_far
found_all f (x ∷ xs) found all none is so_far = absurd (omega (arith, is))

-- the first that passes, where none does before it
pub first_passes : {A : Type 0} (p : A → Bool) (xs : List A) (i : ℕ) (d : A) → i < length xs → filter p (take i xs) ≡ [] → p (get_or xs i d) ≡ true
    → next_of (filter p xs) ≡ Some (get_or xs i d)
first_passes p xs i d inside none passes =
    ap (λ ys. next_of (filter p ys)) (sym (take-append-drop (i + 1) xs))
    ∙ ap next_of (filter-append p (take (i + 1) xs) (drop (i + 1) xs))
    ∙ ap (λ ys. next_of (ys ++ filter p (drop (i + 1) xs))) (filter_take_more p xs i d inside ∙ ap (λ ys. ys ++ filter p (get_or xs i d ∷ [])) none ∙ ap (λ b. if b then get_or xs i d ∷ [] else []) passes)
