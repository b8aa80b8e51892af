-- Searches over lists whose elements pass the same tests one by one.
use Rattle.std.proofs.Common.{◌≡◌, ℕ, zero, suc, Bool, true, not, ◌&&◌, List, [], ◌∷◌, length, get_or, refl, sym, ◌∙◌, inl, inr, arith}
use Rattle.std.specs.List.{list_all, list_any, position, position_or_len}
use Rattle.std.proofs.lemmas.Bool.{cases_Bool}
use Rattle.sd_state.specs.Best.{leads_by, best_by}

-- each test of an element of the one list is that of the element of the other
abbrev pub AreAlike : {X : Type 0} → X → (X → Bool) → (X → Bool) → List X → List X → Type 0
AreAlike d p q xs ys = (i : ℕ) → p (get_or xs i d) ≡ q (get_or ys i d)

pub place_same : {X : Type 0} (d : X) (p q : X → Bool) (xs ys : List X) → length xs ≡ length ys → AreAlike d p q xs ys → position_or_len p xs ≡ position_or_len q ys
place_same d p q [] [] e h = refl
place_same d p q [] (y ∷ ys) e h = absurd (omega arith)
place_same d p q (x ∷ xs) [] e h = absurd (omega arith)
place_same d p q (x ∷ xs) (y ∷ ys) e h =
    let rest : position_or_len p xs ≡ position_or_len q ys = place_same d p q xs ys (omega arith) (λ i. h (suc i)) in
    let head : p x ≡ q y = h zero in
    rw (head, rest)

pub position_same : {X : Type 0} (d : X) (p q : X → Bool) (xs ys : List X) → length xs ≡ length ys → AreAlike d p q xs ys → position p xs ≡ position q ys
position_same d p q xs ys e h =
    let at = place_same d p q xs ys e h in
    rw (at, e)

pub all_same : {X : Type 0} (d : X) (p q : X → Bool) (xs ys : List X) → length xs ≡ length ys → AreAlike d p q xs ys → list_all p xs ≡ list_all q ys
all_same d p q [] [] e h = refl
all_same d p q [] (y ∷ ys) e h = absurd (omega arith)
all_same d p q (x ∷ xs) [] e h = absurd (omega arith)
all_same d p q (x ∷ xs) (y ∷ ys) e h =
    let rest : list_all p xs ≡ list_all q ys = all_same d p q xs ys (omega arith) (λ i. h (suc i)) in
    let head : p x ≡ q y = h zero in
    rw (head, rest)

pub any_same : {X : Type 0} (d : X) (p q : X → Bool) (xs ys : List X) → length xs ≡ length ys → AreAlike d p q xs ys → list_any p xs ≡ list_any q ys
any_same d p q [] [] e h = refl
any_same d p q [] (y ∷ ys) e h = absurd (omega arith)
any_same d p q (x ∷ xs) [] e h = absurd (omega arith)
any_same d p q (x ∷ xs) (y ∷ ys) e h =
    let rest : list_any p xs ≡ list_any q ys = any_same d p q xs ys (omega arith) (λ i. h (suc i)) in
    let head : p x ≡ q y = h zero in
    rw (head, rest)

-- of two candidates the one goes before the other as in the other list
abbrev pub AreOrderedAlike : {X : Type 0} → X → (X → Bool) → (X → X → Bool) → List X → List X → Type 0
AreOrderedAlike d on beats xs ys =
    (i j : ℕ) → on (get_or xs i d) ≡ true → on (get_or xs j d) ≡ true → beats (get_or xs i d) (get_or xs j d) ≡ beats (get_or ys i d) (get_or ys j d)

leads_same : {X : Type 0} (d : X) (on on' : X → Bool) (beats : X → X → Bool) (xs ys : List X) → length xs ≡ length ys → AreAlike d on on' xs ys
    → AreOrderedAlike d on beats xs ys → AreAlike d (leads_by on beats xs) (leads_by on' beats ys) xs ys
leads_same d on on' beats xs ys e h order i = elim (cases_Bool (on (get_or xs i d))) [
  | inl first ↦
      let each : (j : ℕ) → not (on (get_or xs j d) && beats (get_or xs j d) (get_or xs i d)) ≡ not (on' (get_or ys j d) && beats (get_or ys j d) (get_or ys i d)) =
      λ j. elim (cases_Bool (on (get_or xs j d))) [
        | inl y ↦ rw (y, sym (h j) ∙ y, order j i y first)
        | inr n ↦ rw (n, sym (h j) ∙ n)
      ] in
      rw (first, sym (h i) ∙ first) (all_same d (λ u. not (on u && beats u (get_or xs i d))) (λ u. not (on' u && beats u (get_or ys i d))) xs ys e each)
  | inr none ↦ rw (none, sym (h i) ∙ none)
]

pub best_same : {X : Type 0} (d : X) (on on' : X → Bool) (beats : X → X → Bool) (xs ys : List X) → length xs ≡ length ys → AreAlike d on on' xs ys
    → AreOrderedAlike d on beats xs ys → best_by on beats xs ≡ best_by on' beats ys
best_same d on on' beats xs ys e h order = position_same d (leads_by on beats xs) (leads_by on' beats ys) xs ys e (leads_same d on on' beats xs ys e h order)
