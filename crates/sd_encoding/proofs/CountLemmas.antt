-- How many elements of lists pass tests.
use Rattle.std.proofs.Common.{◌≡◌, ℕ, zero, suc, ◌+◌, ◌<◌, ◌≤◌, Bool, true, false, cond, List, [], ◌∷◌, length, get_or, refl, sym, ap, ◌∙◌, arith}
use Rattle.std.specs.List.{count_by}
use Rattle.std.proofs.lemmas.List.Sums.{sum_by-cons}
use Rattle.sd_encoding.proofs.ListLemmas.{AreAlike}

one : {X : Type 0} (p : X → Bool) (x : X) (xs : List X) → count_by p (x ∷ xs) ≡ cond (p x) 1 0 + count_by p xs
one p x xs = sum_by-cons (λ y. cond (p y) 1 0) x xs

pub count_same : {X : Type 0} (d : X) (p q : X → Bool) (xs ys : List X) → length xs ≡ length ys → AreAlike d p q xs ys → count_by p xs ≡ count_by q ys
count_same d p q [] [] e h = refl
count_same d p q [] (y ∷ ys) e h = absurd (omega arith)
count_same d p q (x ∷ xs) [] e h = absurd (omega arith)
count_same d p q (x ∷ xs) (y ∷ ys) e h =
    let rest : count_by p xs ≡ count_by q ys = count_same d p q xs ys (omega arith) (λ i. h (suc i)) in
    let head : p x ≡ q y = h zero in
    one p x xs ∙ (λ i. cond (head i) 1 0 + rest i) ∙ sym (one q y ys)

one_less : (a b : Bool) → (a ≡ true → b ≡ true) → cond a 1 0 ≤ cond b 1 0
one_less true true h = omega arith
one_less true false h = absurd (let e : false ≡ true = h refl in cc)
one_less false b h = omega arith

-- the one test passes only what the other passes
abbrev pub IsWithin : {X : Type 0} → X → (X → Bool) → (X → Bool) → List X → Type 0
IsWithin d p q xs = (i : ℕ) → p (get_or xs i d) ≡ true → q (get_or xs i d) ≡ true

pub count_less : {X : Type 0} (d : X) (p q : X → Bool) (xs : List X) → IsWithin d p q xs → count_by p xs ≤ count_by q xs
count_less d p q [] h = omega arith
count_less d p q (x ∷ xs) h =
    let rest : count_by p xs ≤ count_by q xs = count_less d p q xs (λ i. h (suc i)) in
    let head : cond (p x) 1 0 ≤ cond (q x) 1 0 = one_less (p x) (q x) (h zero) in
    omega (arith, one p x xs, one q x xs)

pub count_more : {X : Type 0} (d : X) (p q : X → Bool) (xs : List X) (i : ℕ) → i < length xs → IsWithin d p q xs → p (get_or xs i d) ≡ false → q (get_or xs i d) ≡ true → count_by p xs < count_by q xs
count_more d p q [] i inside h none some = absurd (omega arith)
count_more d p q (x ∷ xs) zero inside h none some =
    let rest : count_by p xs ≤ count_by q xs = count_less d p q xs (λ j. h (suc j)) in
    let head : ◌≡◌ {A = ℕ} (cond (p x) 1 0) 0 = ap (λ b. cond b 1 0) none in
    let head' : ◌≡◌ {A = ℕ} (cond (q x) 1 0) 1 = ap (λ b. cond b 1 0) some in
    omega (arith, one p x xs, one q x xs)
count_more d p q (x ∷ xs) (suc i) inside h none some =
    let rest : count_by p xs < count_by q xs = count_more d p q xs i (omega arith) (λ j. h (suc j)) none some in
    let head : cond (p x) 1 0 ≤ cond (q x) 1 0 = one_less (p x) (q x) (h zero) in
    omega (arith, one p x xs, one q x xs)
