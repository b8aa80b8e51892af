-- The turns of the sets, before the first thread and once one more has had its turn.
use Rattle.std.proofs.Common.{◌≡◌, ◌≢◌, ℕ, ◌+◌, ◌<◌, ◌≤◌, ◌==◌, ◌^◌, Bool, true, false, List, [], ◌∷◌, Some, length, slice_get, get_or, set, refl, sym, ap, ◌∙◌, subst, arith}
use Rattle.std.proofs.lemmas.Bool.Decides.{nat_tests}
use Rattle.std.proofs.lemmas.List.{get_or-set_same, get_or-set_other}
use Rattle.std.proofs.lemmas.List.Sums.{count_by_more_no, count_by_more_yes}
use Rattle.std.proofs.lemmas.Option.{get_or_from_slice_get}
use Rattle.sd_types.specs.declared.works.ThreadDecl.{ThreadDecl}
use Rattle.sd_types.specs.declared.works.Work.{Work}
use Rattle.sd_state.specs.Opening.{is_dealt, is_urgent, dealt_before}
use Rattle.sd_opening.specs.Dealt.{AreDealt}

module _ (w : Work) (t : ℕ) (d : ThreadDecl) (inside : t < length w.threads) (there : slice_get w.threads t ≡ Some d) where
  here : get_or w.threads t d ≡ d
  here = get_or_from_slice_get w.threads t d d there

  waits : (p : ℕ) → is_dealt p d ≡ false → dealt_before w p (t + 1) ≡ dealt_before w p t
  waits p not = count_by_more_no (is_dealt p) w.threads t d inside (ap (is_dealt p) here ∙ not)

  comes : (p : ℕ) → is_dealt p d ≡ true → dealt_before w p (t + 1) ≡ dealt_before w p t + 1
  comes p is = count_by_more_yes (is_dealt p) w.threads t d inside (ap (is_dealt p) here ∙ is)

  not_in : (p : ℕ) → d.set.0 ≢ p → is_dealt p d ≡ false
  not_in p apart = by (d.set.0 == p) refl
    where
      by : (b : Bool) → (d.set.0 == p) ≡ b → is_dealt p d ≡ false
      by true e = absurd (apart (grind (arith, nat_tests)))
      by false e = rw e refl

  never : (p : ℕ) → is_urgent d ≡ true → is_dealt p d ≡ false
  never p urgent = by (d.set.0 == p) refl
    where
      by : (b : Bool) → (d.set.0 == p) ≡ b → is_dealt p d ≡ false
      by true e = rw (e, urgent) refl
      by false e = rw e refl

  always : is_urgent d ≡ false → is_dealt d.set.0 d ≡ true
  always calm = by (d.set.0 == d.set.0) refl
    where
      by : (b : Bool) → (d.set.0 == d.set.0) ≡ b → is_dealt d.set.0 d ≡ true
      by true e = rw (e, calm) refl
      by false e = absurd (grind (arith, nat_tests))

  -- an urgent thread has no turn
  pub urgent_passes : (ns : List ℕ) → is_urgent d ≡ true → AreDealt w t ns → AreDealt w (t + 1) ns
  urgent_passes ns urgent dealing p small = dealing p small ∙ sym (waits p (never p urgent))

  -- a thread of a set that has no number here
  pub other_passes : (ns : List ℕ) → 9 ≤ d.set.0 → AreDealt w t ns → AreDealt w (t + 1) ns
  other_passes ns far dealing p small = dealing p small ∙ sym (waits p (not_in p (λ (e : d.set.0 ≡ p). omega arith)))

  -- any other thread has the next turn of its set
  pub dealt_passes : (ns : List ℕ) → length ns ≡ 9 → is_urgent d ≡ false → d.set.0 < 9 → AreDealt w t ns
      → AreDealt w (t + 1) (set ns d.set.0 (get_or ns d.set.0 0 + 1))
  dealt_passes ns nine calm near dealing p small = by (d.set.0 == p) refl
    where
      by : (b : Bool) → (d.set.0 == p) ≡ b → get_or (set ns d.set.0 (get_or ns d.set.0 0 + 1)) p 0 ≡ dealt_before w p (t + 1)
      by true e =
          let same : d.set.0 ≡ p = grind (arith, nat_tests) in
          let own : get_or (set ns d.set.0 (get_or ns d.set.0 0 + 1)) d.set.0 0 ≡ dealt_before w d.set.0 (t + 1) =
          get_or-set_same ns d.set.0 (get_or ns d.set.0 0 + 1) 0 (omega arith) ∙ ap (λ n. n + 1) (dealing d.set.0 near) ∙ sym (comes d.set.0 (always calm)) in
          subst (λ q. get_or (set ns d.set.0 (get_or ns d.set.0 0 + 1)) q 0 ≡ dealt_before w q (t + 1)) same own
      by false e =
          let apart : d.set.0 ≢ p = λ (same : d.set.0 ≡ p). absurd (grind (arith, nat_tests)) in
          get_or-set_other ns d.set.0 p (get_or ns d.set.0 0 + 1) 0 (λ (same : p ≡ d.set.0). apart (sym same)) ∙ dealing p small ∙ sym (waits p (not_in p apart))
