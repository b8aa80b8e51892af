-- The greatest of a number and the inherited priorities.
use Rattle.std.proofs.Common.{◌≡◌, ℕ, zero, suc, ◌+◌, ◌<◌, ◌≤◌, true, max, [], ◌∷◌, length, get_or, drop, Contains, ◌⊎◌, inl, inr, refl, sym, ap, ◌∙◌, arith, nat_lt, add-one, drop-cons}
use Rattle.std.specs.List.{list_all}
use Rattle.std.proofs.lemmas.Bool.{cases_lt}
use Rattle.std.proofs.lemmas.Bool.Decides.{nat_tests}
use Rattle.sd_types.specs.declared.numbers.LockId.{LockId}
use Rattle.sd_types.specs.Priorities.{greatest_willed}
use Rattle.sd_types.specs.Willed.{Numbers}

pub greatest-base : (n : ℕ) (ws : Numbers) → n ≤ greatest_willed n ws
greatest-base n [] = omega arith
greatest-base n (w ∷ ws) = omega (arith, greatest-base n ws)

greatest-at : (n : ℕ) (ws : Numbers) (w : LockId × ℕ) (i : ℕ) → i < length ws → get_or ws i w ≡ w → w.1 ≤ greatest_willed n ws
greatest-at n [] w i h e = absurd (omega arith)
greatest-at n (v ∷ vs) w zero h e = let same = ap (λ (x : LockId × ℕ). x.1) e in omega arith
greatest-at n (v ∷ vs) w (suc i) h e = omega (arith, greatest-at n vs w i (omega arith) e)

pub greatest-each : (n : ℕ) (ws : Numbers) (w : LockId × ℕ) → Contains ws w → w.1 ≤ greatest_willed n ws
greatest-each n ws w (i, h, e) = greatest-at n ws w i h e

pub greatest-one : (n : ℕ) (ws : Numbers) → (greatest_willed n ws ≡ n) ⊎ ((w : LockId × ℕ) × Contains ws w × (greatest_willed n ws ≡ w.1))
greatest-one n [] = inl refl
greatest-one n (v ∷ vs) = elim (cases_lt (greatest_willed n vs) v.1) [
  | inl less ↦ inr (v, (0, omega arith, refl), omega arith)
  | inr more ↦ elim (greatest-one n vs) [
    | inl base ↦ inl (omega arith)
    | inr w ↦ inr (w.0, (suc w.1.0, omega arith, w.1.2), omega arith)
  ]
]

-- a greater number to begin with
pub greatest-max : (n a : ℕ) (ws : Numbers) → greatest_willed (max n a) ws ≡ max a (greatest_willed n ws)
greatest-max n a [] = omega arith
greatest-max n a (w ∷ ws) = omega (arith, greatest-max n a ws)

-- one more number is taken in
pub greatest-more : (n : ℕ) (ws : Numbers) (i : ℕ) (d : LockId × ℕ) → i < length ws → greatest_willed (max n (get_or ws i d).1) (drop (i + 1) ws) ≡ greatest_willed n (drop i ws)
greatest-more n ws i d h =
    greatest-max n (get_or ws i d).1 (drop (i + 1) ws)
    ∙ ap (λ (k : ℕ). max (get_or ws i d).1 (greatest_willed n (drop k ws))) (add-one i)
    ∙ sym (ap (greatest_willed n) (drop-cons ws i d h))

pub greatest-below : (n most : ℕ) (ws : Numbers) → n < most → list_all (λ w. nat_lt w.1 most) ws ≡ true → greatest_willed n ws < most
greatest-below n most [] h all = h
greatest-below n most (w ∷ ws) h all =
    let rest : list_all (λ w. nat_lt w.1 most) ws ≡ true = grind (arith, nat_tests) in
    let here : w.1 < most = grind (arith, nat_tests) in
    omega (arith, greatest-below n most ws h rest)
