-- Texts that are drawn one after another: what was appended, and what is left from here, are the whole.
use Rattle.std.proofs.Common.{◌≡◌, ℕ, suc, ◌+◌, ◌-◌, ◌<◌, ◌≤◌, List, [], ◌∷◌, ◌++◌, sym, ap, ◌∙◌, arith}
use Rattle.std.proofs.lemmas.List.{append_assoc, append-nil}
use Rattle.std.proofs.lemmas.List.Concat.{flat_map-append}
use Rattle.rand_pcg.specs.Lcg.{Lcg}
use Rattle.sd_gen.specs.Generated.{Drawn, drawn_from}

left_one : (i : ℕ) → i < 200 → 200 - i ≡ suc (200 - (i + 1))
left_one i h = omega arith

none_left : (i : ℕ) → 200 ≤ i → 200 - i ≡ 0
none_left i h = omega arith

module _ (line : ℕ → Lcg → Drawn) where
  next_one : (i : ℕ) (g : Lcg) → i < 200
      → drawn_from line (200 - i) i g ≡ ((line i g).0 ++ (drawn_from line (200 - (i + 1)) (i + 1) (line i g).1).0, (drawn_from line (200 - (i + 1)) (i + 1) (line i g).1).1)
  unfolding drawn_from
  next_one i g h = ap (λ k. drawn_from line k i g) (left_one i h)

  all_over : (i : ℕ) (g : Lcg) → 200 ≤ i → drawn_from line (200 - i) i g ≡ ([], g)
  unfolding drawn_from
  all_over i g h = ap (λ k. drawn_from line k i g) (none_left i h)

  pub text_on : (i : ℕ) (g g' : Lcg) (out out' : List ℕ) → i < 200 → out' ≡ out ++ (line i g).0 → g' ≡ (line i g).1
      → out' ++ (drawn_from line (200 - (i + 1)) (i + 1) g').0 ≡ out ++ (drawn_from line (200 - i) i g).0
  text_on i g g' out out' h text next =
      ap (λ (xs : List ℕ). xs ++ (drawn_from line (200 - (i + 1)) (i + 1) g').0) text
      ∙ ap (λ x. (out ++ (line i g).0) ++ (drawn_from line (200 - (i + 1)) (i + 1) x).0) next
      ∙ append_assoc out (line i g).0 (drawn_from line (200 - (i + 1)) (i + 1) (line i g).1).0
      ∙ ap (λ (d : Drawn). out ++ d.0) (sym (next_one i g h))

  pub generator_on : (i : ℕ) (g g' : Lcg) → i < 200 → g' ≡ (line i g).1 → (drawn_from line (200 - (i + 1)) (i + 1) g').1 ≡ (drawn_from line (200 - i) i g).1
  generator_on i g g' h next = ap (λ x. (drawn_from line (200 - (i + 1)) (i + 1) x).1) next ∙ ap (λ (d : Drawn). d.1) (sym (next_one i g h))

  pub text_over : (i : ℕ) (g : Lcg) (out whole : List ℕ) → 200 ≤ i → out ++ (drawn_from line (200 - i) i g).0 ≡ whole → out ≡ whole
  text_over i g out whole h e = sym (append-nil out) ∙ ap (λ (d : Drawn). out ++ d.0) (sym (all_over i g h)) ∙ e

  pub generator_over : (i : ℕ) (g last : Lcg) → 200 ≤ i → (drawn_from line (200 - i) i g).1 ≡ last → g ≡ last
  generator_over i g last h e = ap (λ (d : Drawn). d.1) (sym (all_over i g h)) ∙ e
