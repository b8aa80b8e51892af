-- Rounds as the program makes them: from the entries and the state so far.
use Rattle.std.proofs.Common.{◌≡◌, ◌≢◌, ℕ, zero, suc, ◌+◌, ◌^◌, ◌<◌, ◌≤◌, List, [], ◌∷◌, ◌++◌, length, get_or, drop, refl, sym, ap, subst, ◌∙◌, arith, inl, inr}
use Rattle.std.proofs.lemmas.Bool.{cases_lt}
use Rattle.std.proofs.lemmas.List.{append-nil, drop_all, length-append, nil_from_length}
use Rattle.sd_types.specs.declared.numbers.CpuId.{CpuId}
use Rattle.sd_types.specs.declared.events.Entry.{Entry}
use Rattle.sd_types.specs.declared.works.Work.{Work}
use Rattle.sd_state.specs.declared.states.State.{State}
use Rattle.sd_state.specs.Opening.{opening}
use Rattle.sd_machine.specs.Runs.{final, turn, round, round_after, rounds, IsSerial}
use Rattle.sd_machine.proofs.RoundLemmas.{round-nil, round_more, rounds-zero, rounds-more}
use Rattle.sd_rounds.specs.Rounds.{HasRounds, IsLongSerial}

pub grows : (more es es' : List Entry) → es' ≡ es ++ more → length es ≤ length es'
grows more es es' e = omega (arith, ap length e, length-append es more)

-- a round that adds nothing is empty
pub none_more : (more es es' : List Entry) → es' ≡ es ++ more → length es' ≡ length es → more ≡ []
none_more more es es' e same = nil_from_length more (omega (arith, ap length e, length-append es more, same))

module _ (w : Work) (order : List CpuId) where
  -- one turn of a round
  pub round_on : (i : ℕ) (d : CpuId) (s s' : State) (es es' : List Entry) → i < length order
      → es' ≡ es ++ turn w s (length es) (get_or order i d) → s' ≡ final w s (turn w s (length es) (get_or order i d))
      → es' ++ round w s' (length es') (drop (i + 1) order) ≡ es ++ round w s (length es) (drop i order)
  round_on i d s s' es es' h e f =
      ap (λ (xs : List Entry). xs ++ round w s' (length xs) (drop (i + 1) order)) e
      ∙ ap (λ (x : State). (es ++ turn w s (length es) (get_or order i d)) ++ round w x (length (es ++ turn w s (length es) (get_or order i d))) (drop (i + 1) order)) f
      ∙ round_more w order i d s es h

  -- the round is over
  pub round_over : (i : ℕ) (s : State) (n : ℕ) → length order ≤ i → round w s n (drop i order) ≡ []
  round_over i s n h = ap (round w s n) (drop_all i order h) ∙ round-nil w s n

  pub entries_over : (i : ℕ) (s : State) (es xs : List Entry) → length order ≤ i → es ++ round w s (length es) (drop i order) ≡ xs → es ≡ xs
  entries_over i s es xs h e = sym (ap (λ (ys : List Entry). es ++ ys) (round_over i s (length es) h) ∙ append-nil es) ∙ e

  -- the entries of this round, where it begins in the state after those so far
  here : (s : State) (es : List Entry) → s ≡ final w (opening w) es → round w s (length es) order ≡ round_after w order es
  here s es e = ap (λ (x : State). round w x (length es) order) e

module _ (w : Work) (orders : ℕ → List CpuId) where
  pub no_rounds : (es : List Entry) → es ≡ [] → HasRounds w orders 0 es
  no_rounds es e = record { entries = e ∙ sym (rounds-zero w orders); goes_on = λ k l. absurd (omega arith) }

  -- the entries of the next round
  next_round : (count : ℕ) (s : State) (es : List Entry) → s ≡ final w (opening w) es → round w s (length es) (orders count) ≡ round_after w (orders count) es
  next_round count s es f = here w (orders count) s es f

  pub one_round_more : (count : ℕ) (s : State) (es es' : List Entry) → HasRounds w orders count es → s ≡ final w (opening w) es
      → es' ≡ es ++ round w s (length es) (orders count) → length es' ≢ length es → HasRounds w orders (suc count) es'
  one_round_more count s es es' h f e other =
      let made : es' ≡ es ++ round_after w (orders count) es = e ∙ ap (λ (xs : List Entry). es ++ xs) (next_round count s es f) in
      let some : round_after w (orders count) es ≢ [] = λ none. other (ap length (made ∙ ap (λ (xs : List Entry). es ++ xs) none ∙ append-nil es)) in
      record {
        entries = made ∙ ap (λ (xs : List Entry). xs ++ round_after w (orders count) xs) h.entries ∙ sym (rounds-more w orders count);
        goes_on = λ k l. elim (cases_lt k count) [
          | inl less ↦ h.goes_on k less
          | inr more ↦
              let same : k ≡ count = omega arith in
              rw same (subst (λ (xs : List Entry). round_after w (orders count) xs ≢ []) h.entries some)
        ];
      }

  pub long_serial : (count : ℕ) (s : State) (es : List Entry) → HasRounds w orders count es → s ≡ final w (opening w) es
      → 2 ^ 40 ≤ length (es ++ round w s (length es) (orders count)) → IsLongSerial w orders
  long_serial count s es h f long = by (round_after w (orders count) es) (next_round count s es f)
    where
      long_so_far : 2 ^ 40 ≤ length es → IsLongSerial w orders
      long_so_far many = record {
        count = count;
        so_far = subst (λ (xs : List Entry). HasRounds w orders count xs) h.entries h;
        long = subst (λ (xs : List Entry). 2 ^ 40 ≤ length xs) h.entries many;
      }

      by : (more : List Entry) → round w s (length es) (orders count) ≡ more → IsLongSerial w orders
      by [] none = long_so_far (subst (λ (xs : List Entry). 2 ^ 40 ≤ length xs) (ap (λ (xs : List Entry). es ++ xs) none ∙ append-nil es) long)
      by (e ∷ more) some =
          let next : es ++ round w s (length es) (orders count) ≡ rounds w orders (suc count) =
          ap (λ (xs : List Entry). es ++ xs) (next_round count s es f) ∙ ap (λ (xs : List Entry). xs ++ round_after w (orders count) xs) h.entries ∙ sym (rounds-more w orders count) in
          let grown = ap length some in
          let joined = length-append es (round w s (length es) (orders count)) in
          record {
            count = suc count;
            so_far = subst (λ (xs : List Entry). HasRounds w orders (suc count) xs) next
                (one_round_more count s es _ h f refl (λ same. absurd (omega (arith, same, grown, joined))));
            long = subst (λ (xs : List Entry). 2 ^ 40 ≤ length xs) next long;
          }

  -- a round that adds nothing ends the run
  pub is_over : (count : ℕ) (s : State) (es es' : List Entry) → HasRounds w orders count es → s ≡ final w (opening w) es
      → es' ≡ es ++ round w s (length es) (orders count) → length es' ≡ length es → IsSerial w orders es'
  is_over count s es es' h f e same =
      let none : round w s (length es) (orders count) ≡ [] = nil_from_length (round w s (length es) (orders count)) (omega (arith, ap length e, length-append es (round w s (length es) (orders count)))) in
      let kept : es' ≡ es = e ∙ ap (λ (xs : List Entry). es ++ xs) none ∙ append-nil es in
      record {
        count = count;
        entries = kept ∙ h.entries;
        goes_on = h.goes_on;
        ends = ap (round_after w (orders count)) kept ∙ sym (next_round count s es f) ∙ none;
      }

  -- fewer rounds have no more entries
  rounds_grow : (k m : ℕ) → k ≤ m → length (rounds w orders k) ≤ length (rounds w orders m)
  rounds_grow k zero h = let same : k ≡ 0 = omega arith in let e = ap (λ (n : ℕ). length (rounds w orders n)) same in omega arith
  rounds_grow k (suc m) h = elim (cases_lt k (suc m)) [
    | inl before ↦
        let rest = rounds_grow k m (omega arith) in
        let more = grows (round_after w (orders m) (rounds w orders m)) (rounds w orders m) (rounds w orders (suc m)) (rounds-more w orders m) in
        omega arith
    | inr here ↦ let same : k ≡ suc m = omega arith in let e = ap (λ (n : ℕ). length (rounds w orders n)) same in omega arith
  ]

  pub no_longer : (es : List Entry) → IsSerial w orders es → length es < 2 ^ 40 → IsLongSerial w orders → ⊥
  no_longer es r few l = elim (cases_lt r.count l.count) [
    | inl past ↦ l.so_far.goes_on r.count past (subst (λ (xs : List Entry). round_after w (orders r.count) xs ≡ []) r.entries r.ends)
    | inr before ↦
        let fewer = rounds_grow l.count r.count (omega arith) in
        let all = ap length r.entries in
        let long = l.long in
        absurd (omega arith)
  ]
