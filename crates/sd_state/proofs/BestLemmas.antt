-- The best of a list, as a scan from the front finds it: for any candidates and any order.
use Rattle.std.proofs.Common.{◌≡◌, ℕ, ◌+◌, ◌<◌, Bool, true, false, not, ◌&&◌, List, length, get_or, ◌⊎◌, Option, Some, None, sym, ap, ◌∙◌, inl, inr, arith}
use Rattle.std.specs.List.{position, position_or_len}
use Rattle.std.proofs.lemmas.List.Sums.{prefix_len_is}
use Rattle.std.proofs.lemmas.List.Folds.{list_all_at}
use Rattle.std.proofs.lemmas.Bool.{cases_Bool, cases_lt, false≢true}
use Rattle.std.proofs.lemmas.Bool.Decides.{nat_tests}
use Rattle.sd_basics.proofs.Lists.{all_each}
use Rattle.sd_basics.proofs.Truths.{and_left, and_right, and_rest}
use Rattle.sd_state.specs.Best.{leads_by, best_by}

-- beats is a strict order in which what does not beat another is no better than it
pub record IsOrder {X : Type 0} (beats : X → X → Bool) : Type 0 where
  pub itself : (x : X) → beats x x ≡ false
  pub past : (x y z : X) → beats y z ≡ true → beats x z ≡ false → beats x y ≡ false
  pub back : (x y z : X) → beats y z ≡ true → beats x z ≡ false → beats y x ≡ true

-- what a scan knows of the first n
pub record IsBest {X : Type 0} (on : X → Bool) (beats : X → X → Bool) (d : X) (xs : List X) (n b : ℕ) : Type 0 where
  pub inside : b < n
  pub candidate : on (get_or xs b d) ≡ true
  pub unbeaten : (k : ℕ) → k < n → on (get_or xs k d) ≡ true → beats (get_or xs k d) (get_or xs b d) ≡ false
  pub first : (k : ℕ) → k < b → on (get_or xs k d) ≡ true → beats (get_or xs b d) (get_or xs k d) ≡ true

abbrev pub IsBestBelow : {X : Type 0} → (X → Bool) → (X → X → Bool) → X → List X → ℕ → Option ℕ → Type 0
IsBestBelow on beats d xs n None = (k : ℕ) → k < n → on (get_or xs k d) ≡ false
IsBestBelow on beats d xs n (Some b) = IsBest on beats d xs n b

-- whether the candidate at i is the best so far
abbrev pub goes_ahead_by : {X : Type 0} → (X → Bool) → (X → X → Bool) → X → List X → Option ℕ → ℕ → Bool
goes_ahead_by on beats d xs None i = on (get_or xs i d)
goes_ahead_by on beats d xs (Some b) i = on (get_or xs i d) && beats (get_or xs i d) (get_or xs b d)

-- below i + 1 is below i, or i
split_below : (k i : ℕ) → k < i + 1 → (k < i) ⊎ (k ≡ i)
split_below k i h = elim (cases_lt k i) [ inl l ↦ inl l | inr g ↦ inr (omega arith) ]

pub best_taken : {X : Type 0} (on : X → Bool) (beats : X → X → Bool) (d : X) → IsOrder beats → (xs : List X) (o : Option ℕ) (i : ℕ)
    → IsBestBelow on beats d xs i o → goes_ahead_by on beats d xs o i ≡ true → IsBestBelow on beats d xs (i + 1) (Some i)
best_taken on beats d order xs None i before ahead = record {
  inside = omega arith;
  candidate = ahead;
  unbeaten = λ k h c. elim (split_below k i h) [
    | inl l ↦ absurd (false≢true (sym (before k l) ∙ c))
    | inr e ↦ rw e (order.itself (get_or xs i d))
  ];
  first = λ k l c. absurd (false≢true (sym (before k l) ∙ c));
}
best_taken on beats d order xs (Some b) i before ahead =
    let wins : beats (get_or xs i d) (get_or xs b d) ≡ true = and_right (on (get_or xs i d)) _ ahead in
    record {
      inside = omega arith;
      candidate = and_left _ (beats (get_or xs i d) (get_or xs b d)) ahead;
      unbeaten = λ k h c. elim (split_below k i h) [
        | inl l ↦ order.past (get_or xs k d) (get_or xs i d) (get_or xs b d) wins (before.unbeaten k l c)
        | inr e ↦ rw e (order.itself (get_or xs i d))
      ];
      first = λ k l c. order.back (get_or xs k d) (get_or xs i d) (get_or xs b d) wins (before.unbeaten k l c);
    }

pub best_kept : {X : Type 0} (on : X → Bool) (beats : X → X → Bool) (d : X) (xs : List X) (o : Option ℕ) (i : ℕ)
    → IsBestBelow on beats d xs i o → goes_ahead_by on beats d xs o i ≡ false → IsBestBelow on beats d xs (i + 1) o
best_kept on beats d xs None i before behind = λ k h. elim (split_below k i h) [ inl l ↦ before k l | inr e ↦ rw e behind ]
best_kept on beats d xs (Some b) i before behind =
    let below = before.inside in
    record {
      inside = omega arith;
      candidate = before.candidate;
      unbeaten = λ k h c. elim (split_below k i h) [
        | inl l ↦ before.unbeaten k l c
        | inr e ↦ rw e (and_rest (on (get_or xs i d)) _ (rw e at c) behind)
      ];
      first = before.first;
    }

-- the index of the first that passes
pub position_is : {X : Type 0} (p : X → Bool) (xs : List X) (b : ℕ) (d : X) → b < length xs → p (get_or xs b d) ≡ true
    → ((k : ℕ) → k < b → p (get_or xs k d) ≡ false) → position p xs ≡ Some b
position_is p xs b d h here none =
    let at : position_or_len p xs ≡ b = prefix_len_is (λ x. not (p x)) xs b d (omega arith) (λ k l. ap not (none k l)) (λ _. ap not here) in
    grind (arith, nat_tests)

pub position_none : {X : Type 0} (p : X → Bool) (xs : List X) (d : X) → ((k : ℕ) → k < length xs → p (get_or xs k d) ≡ false) → position p xs ≡ None
position_none p xs d none =
    let at : position_or_len p xs ≡ length xs = prefix_len_is (λ x. not (p x)) xs (length xs) d (omega arith) (λ k l. ap not (none k l)) (λ l. absurd (omega arith)) in
    grind (arith, nat_tests)

leads_true : {X : Type 0} (on : X → Bool) (beats : X → X → Bool) (d : X) (xs : List X) (b : ℕ) → IsBest on beats d xs (length xs) b → leads_by on beats xs (get_or xs b d) ≡ true
leads_true on beats d xs b best =
    let fits : (k : ℕ) → k < length xs → not (on (get_or xs k d) && beats (get_or xs k d) (get_or xs b d)) ≡ true =
    λ k l. elim (cases_Bool (on (get_or xs k d))) [ inl y ↦ rw (y, best.unbeaten k l y) | inr n ↦ rw n ] in
    rw (best.candidate, all_each (λ u. not (on u && beats u (get_or xs b d))) d xs fits)

leads_false : {X : Type 0} (on : X → Bool) (beats : X → X → Bool) (d : X) (xs : List X) (b k : ℕ) → IsBest on beats d xs (length xs) b → k < b → leads_by on beats xs (get_or xs k d) ≡ false
leads_false on beats d xs b k best l =
    elim (cases_Bool (on (get_or xs k d))) [
      | inl y ↦
          let fails : not (on (get_or xs b d) && beats (get_or xs b d) (get_or xs k d)) ≡ false = rw (best.candidate, best.first k l y) in
          rw (y, list_all_at (λ u. not (on u && beats u (get_or xs k d))) xs b d best.inside fails)
      | inr n ↦ rw n
    ]

-- at the end of the scan it is the best
pub best_by_is : {X : Type 0} (on : X → Bool) (beats : X → X → Bool) (d : X) (xs : List X) (o : Option ℕ) → IsBestBelow on beats d xs (length xs) o → o ≡ best_by on beats xs
best_by_is on beats d xs None none = sym (position_none (leads_by on beats xs) xs d (λ k l. rw (none k l)))
best_by_is on beats d xs (Some b) best =
    sym (position_is (leads_by on beats xs) xs b d best.inside (leads_true on beats d xs b best) (λ k l. leads_false on beats d xs b k best l))
