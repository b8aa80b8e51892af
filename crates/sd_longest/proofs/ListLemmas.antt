-- What stands at a place of a list, by `slice_get`.
use Rattle.std.proofs.Common.{◌≡◌, ℕ, zero, suc, ◌+◌, ◌<◌, ◌≤◌, List, [], ◌∷◌, ◌++◌, length, Some, refl, sym, ap, ◌∙◌, subst, arith, inl, inr, ◌⊎◌}
use Rattle.std.specs.Prelude.{slice_get, slice_set}
use Rattle.std.specs.List.{Contains}
use Rattle.std.proofs.lemmas.Bool.{cases_lt}
use Rattle.std.proofs.lemmas.Option.{get_or_from_slice_get, same_Some, slice_get-get_or, slice_get_within}

module _ {X : Type 0} where
  pub set_here : (xs : List X) (i : ℕ) (y : X) → i < length xs → slice_get (slice_set xs i y) i ≡ Some y
  set_here [] i y inside = absurd (omega arith)
  set_here (x ∷ xs) zero y inside = refl
  set_here (x ∷ xs) (suc i) y inside = set_here xs i y (omega arith)

  -- it stood there before, or it is what was written
  pub set_cases : (xs : List X) (i j : ℕ) (y z : X) → slice_get (slice_set xs i y) j ≡ Some z → (slice_get xs j ≡ Some z) ⊎ ((j ≡ i) × (y ≡ z))
  set_cases [] i j y z e = inl e
  set_cases (x ∷ xs) zero zero y z e = inr (refl, same_Some y z e)
  set_cases (x ∷ xs) zero (suc j) y z e = inl e
  set_cases (x ∷ xs) (suc i) zero y z e = inl e
  set_cases (x ∷ xs) (suc i) (suc j) y z e = elim (set_cases xs i j y z e) [ inl before ↦ inl before | inr new ↦ inr (ap suc new.0, new.1) ]

  pub set_other : (xs : List X) (i j : ℕ) (y z : X) → (j ≡ i → ⊥) → slice_get xs j ≡ Some z → slice_get (slice_set xs i y) j ≡ Some z
  set_other [] i j y z other e = e
  set_other (x ∷ xs) zero zero y z other e = absurd (other refl)
  set_other (x ∷ xs) zero (suc j) y z other e = e
  set_other (x ∷ xs) (suc i) zero y z other e = e
  set_other (x ∷ xs) (suc i) (suc j) y z other e = set_other xs i j y z (λ same. other (ap suc same)) e

  -- the same place has the same element
  pub one_there : (xs : List X) (i j : ℕ) (x y : X) → i ≡ j → slice_get xs i ≡ Some x → slice_get xs j ≡ Some y → x ≡ y
  one_there xs i j x y same a b = same_Some x y (sym a ∙ ap (slice_get xs) same ∙ b)

  pub contains_at : (xs : List X) (i : ℕ) (x : X) → slice_get xs i ≡ Some x → Contains xs x
  contains_at xs i x at = (i, slice_get_within xs i x at, get_or_from_slice_get xs i x x at)

  pub at_of : (xs : List X) (x : X) → Contains xs x → (i : ℕ) × (slice_get xs i ≡ Some x)
  at_of xs x there = (there.0, slice_get-get_or xs there.0 x there.1 ∙ ap (λ (y : X). Some y) there.2)

  -- P holds up to place q, and at q
  pub one_more : (xs : List X) (q : ℕ) (x : X) (P : X → Type 0) → slice_get xs q ≡ Some x → ((p : ℕ) (y : X) → p < q → slice_get xs p ≡ Some y → P y) → P x
      → (p : ℕ) (y : X) → p < q + 1 → slice_get xs p ≡ Some y → P y
  one_more xs q x P at before here p y few there = by (cases_lt p q)
    where
      by : (p < q) ⊎ (q ≤ p) → P y
      by (inl less) = before p y less there
      by (inr past) = subst P (one_there xs q p x y (omega (arith, few, past)) at there) here
