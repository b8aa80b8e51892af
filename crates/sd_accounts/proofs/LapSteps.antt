-- A lap, one thread further, and the threads that were passed so far before it.
use Rattle.std.proofs.Common.{◌≡◌, ℕ, zero, suc, ◌+◌, ◌-◌, ◌<◌, false, true, eqb, ltb, List, [], ◌∷◌, ◌++◌, Option, Some, None, option_map, refl, sym, ap, ◌∙◌, append_assoc, arith}
use Rattle.std.proofs.lemmas.Bool.{eq-eqb}
use Rattle.std.proofs.lemmas.Bool.Decides.{nat_tests}
use Rattle.sd_machine.specs.Graphs.{Graph}
use Rattle.sd_machine.specs.Cycles.{ahead, joined, lap, none_or_one, cycles_below}

module _ (g : Graph) (first : ℕ) where
  lap_turn : (k t : ℕ) (o : Option ℕ) → 0 < k → ahead g t ≡ o → lap g first k t ≡ joined first t o (λ u. lap g first (k - 1) u)
  unfolding lap
  lap_turn zero t o lt e = absurd (omega arith)
  lap_turn (suc k) t o lt e = ap (λ p. joined first t p (λ u. lap g first k u)) e ∙ ap (λ n. joined first t o (λ u. lap g first n u)) (let is : k ≡ suc k - 1 = omega arith in is)

  -- the threads xs were passed, and all is the whole lap
  module _ (xs : List ℕ) (k t : ℕ) (all : Option (List ℕ)) (so_far : option_map (λ ts. xs ++ ts) (lap g first k t) ≡ all) where
    pub lap_ends : 0 < k → ahead g t ≡ None → None ≡ all
    lap_ends lt e = sym (ap (option_map (λ ts. xs ++ ts)) (lap_turn k t None lt e)) ∙ so_far

    pub lap_back : (u : ℕ) → 0 < k → ahead g t ≡ Some u → u ≡ first → Some (xs ++ t ∷ []) ≡ all
    lap_back u lt e is =
        let same = eq-eqb u first is in
        sym (ap (option_map (λ ts. xs ++ ts)) (lap_turn k t (Some u) lt e) ∙ rw same refl) ∙ so_far

    pub lap_less : (u : ℕ) → 0 < k → ahead g t ≡ Some u → u < first → None ≡ all
    lap_less u lt e less =
        let apart : eqb u first ≡ false = grind (arith, nat_tests) in
        let is : ltb u first ≡ true = grind (arith, nat_tests) in
        sym (ap (option_map (λ ts. xs ++ ts)) (lap_turn k t (Some u) lt e) ∙ rw apart (rw is refl)) ∙ so_far

    pub lap_on : (u : ℕ) → 0 < k → ahead g t ≡ Some u → first < u → option_map (λ ts. (xs ++ t ∷ []) ++ ts) (lap g first (k - 1) u) ≡ all
    lap_on u lt e less =
        let apart : eqb u first ≡ false = grind (arith, nat_tests) in
        let not_less : ltb u first ≡ false = grind (arith, nat_tests) in
        passed (lap g first (k - 1) u) ∙ sym (ap (option_map (λ ts. xs ++ ts)) (lap_turn k t (Some u) lt e) ∙ rw apart (rw not_less refl)) ∙ so_far
      where
        passed : (o : Option (List ℕ)) → option_map (λ ts. (xs ++ t ∷ []) ++ ts) o ≡ option_map (λ ts. xs ++ ts) (option_map (λ ts. t ∷ ts) o)
        passed None = refl
        passed (Some ts) = ap Some (append_assoc xs (t ∷ []) ts)

    pub lap_out : k ≡ 0 → None ≡ all
    unfolding lap
    lap_out e = sym (ap (λ n. option_map (λ ts. xs ++ ts) (lap g first n t)) e) ∙ so_far

pub cycles_more : (g : Graph) (count k : ℕ) → cycles_below g count (k + 1) ≡ cycles_below g count k ++ none_or_one (lap g k count k)
unfolding cycles_below
cycles_more g count k = ap (cycles_below g count) (let e : k + 1 ≡ suc k = omega arith in e)

pub cycles_none : (g : Graph) (count : ℕ) → cycles_below g count 0 ≡ []
unfolding cycles_below
cycles_none g count = refl
