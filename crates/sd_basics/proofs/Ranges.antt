-- Lists over a range of numbers, and one number more.
use Rattle.std.proofs.Common.{◌≡◌, ℕ, zero, suc, ◌+◌, ◌<◌, List, [], ◌∷◌, ◌++◌, map, refl, sym, ap, ◌∙◌, arith}
use Rattle.std.specs.List.{flat_map, range_with_len}
use Rattle.std.proofs.lemmas.List.{append-nil}
use Rattle.std.proofs.lemmas.List.Concat.{flat_map-append}
use Rattle.std.proofs.lemmas.List.Folds.{flat_map-map}
use Rattle.std.proofs.lemmas.List.FromFn.{map-range_with_len_more}

pub range_suc : (a n : ℕ) → range_with_len a (suc n) ≡ range_with_len a n ++ (a + n) ∷ []
range_suc a zero = ap (λ k. k ∷ []) (let e : a ≡ a + 0 = omega arith in e)
range_suc a (suc n) =
    ap (λ (xs : List ℕ). a ∷ xs) (range_suc (a + 1) n)
    ∙ ap (λ k. a ∷ (range_with_len (a + 1) n ++ k ∷ [])) (let e : a + 1 + n ≡ a + suc n = omega arith in e)

pub range_more : (n : ℕ) → range_with_len 0 (n + 1) ≡ range_with_len 0 n ++ n ∷ []
range_more n =
    ap (range_with_len 0) (let e : n + 1 ≡ suc n = omega arith in e) ∙ range_suc 0 n
    ∙ ap (λ k. range_with_len 0 n ++ k ∷ []) (let e : 0 + n ≡ n = omega arith in e)

pub flat_range_more : {A : Type 0} (f : ℕ → List A) (n : ℕ) → flat_map f (range_with_len 0 (n + 1)) ≡ flat_map f (range_with_len 0 n) ++ f n
flat_range_more {A} f n =
    sym (flat_map-map (λ (line : List A). line) f (range_with_len 0 (n + 1)))
    ∙ ap (flat_map (λ (line : List A). line)) (map-range_with_len_more f 0 n n (omega arith))
    ∙ flat_map-append (λ (line : List A). line) (map f (range_with_len 0 n)) (f n ∷ [])
    ∙ ap (λ (text : List A). flat_map (λ (line : List A). line) (map f (range_with_len 0 n)) ++ text) (append-nil (f n))
    ∙ ap (λ (text : List A). text ++ f n) (flat_map-map (λ (line : List A). line) f (range_with_len 0 n))

pub flat_range_same : {A : Type 0} (f g : ℕ → List A) (a n : ℕ) → ((t : ℕ) → t < a + n → f t ≡ g t) → flat_map f (range_with_len a n) ≡ flat_map g (range_with_len a n)
flat_range_same f g a zero same = refl
flat_range_same {A} f g a (suc n) same =
    ap (λ (text : List A). text ++ flat_map f (range_with_len (a + 1) n)) (same a (omega arith))
    ∙ ap (λ (text : List A). g a ++ text) (flat_range_same f g (a + 1) n (λ t inside. same t (omega arith)))
