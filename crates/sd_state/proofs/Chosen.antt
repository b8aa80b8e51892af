-- The thread that runs on a processor, and the best that is ready for it.
use Rattle.std.proofs.Common.{◌≡◌, ℕ, zero, suc, ◌+◌, ◌<◌, ◌≤◌, Bool, true, false, not, List, length, get_or, ℤ, Option, Some, None, refl, ap, ◌∙◌, sym, subst, inl, inr, arith}
use Rattle.std.specs.Prelude.{position}
use Rattle.std.specs.List.{position_or_len}
use Rattle.std.proofs.lemmas.Bool.{not-true, cases_lt, cases_Bool, false≢true}
use Rattle.std.proofs.lemmas.Bool.Decides.{nat_tests}
use Rattle.std.proofs.lemmas.List.{get_or_past}
use Rattle.std.proofs.lemmas.List.Sums.{prefix_len_passes}
use Rattle.std.proofs.lemmas.List.Quantifiers.{position-Some}
use Rattle.sd_state.specs.declared.states.Place.{Place}
use Rattle.sd_state.specs.declared.states.Place.TheVariants.{Running}
use Rattle.sd_state.specs.declared.states.ThreadState.{ThreadState}
use Rattle.sd_state.specs.declared.states.State.{State}
use Rattle.sd_state.specs.States.{thread_of, cpu_of, no_thread, is_running, is_queued, is_ready, key_of, eff_of}
use Rattle.sd_state.specs.Best.{running, best_ready_among, best_by, beats, goes_before, queue_rank}
use Rattle.sd_state.proofs.BestLemmas.{IsOrder, IsBestBelow, goes_ahead_by, best_taken, best_kept, best_by_is}
use Rattle.sd_state.proofs.OrderLemmas.{beats_order}
use Rattle.sd_state.specs.Invariants.{is_marked}

-- processor c runs thread t
abbrev pub Runs : State → ℕ → ℕ → Type 0
Runs s c t = running c s.threads ≡ Some t

abbrev pub places : State → ℕ → Place
places s t = (thread_of s t).place

abbrev pub marks : State → ℕ → Bool
marks s c = is_marked (cpu_of s c)

-- where no place is found, none passes
pub position_fails : {X : Type 0} (p : X → Bool) (xs : List X) (d : X) → p d ≡ false → position p xs ≡ None → (k : ℕ) → p (get_or xs k d) ≡ false
position_fails p xs d out none k = elim (cases_lt k (length xs)) [
  | inl inside ↦
      let far : k < position_or_len p xs = grind (arith, nat_tests) in
      not-true (p (get_or xs k d)) (prefix_len_passes (λ x. not (p x)) xs k d far)
  | inr past ↦ ap p (get_or_past xs k d past) ∙ out
]

-- where a processor has no running thread, no thread runs on it
pub runs_none : (s : State) (c : ℕ) → running c s.threads ≡ None → (u : ℕ) → is_running c (places s u) ≡ false
unfolding running
runs_none s c none u = position_fails (λ (x : ThreadState). is_running c x.place) s.threads no_thread refl none u

-- the best of the first n
pub best_below : {X : Type 0} (on : X → Bool) (beats : X → X → Bool) (d : X) → IsOrder beats → (xs : List X) (n : ℕ) → (o : Option ℕ) × IsBestBelow on beats d xs n o
best_below on beats d order xs zero = (None, λ k h. absurd (omega arith))
best_below on beats d order xs (suc n) =
    let before = best_below on beats d order xs n in
    let o : Option ℕ = before.0 in
    let more : n + 1 ≡ suc n = omega arith in
    elim (cases_Bool (goes_ahead_by on beats d xs o n)) [
      | inl ahead ↦ (Some n, subst (λ m. IsBestBelow on beats d xs m (Some n)) more (best_taken on beats d order xs o n before.1 ahead))
      | inr behind ↦ (o, subst (λ m. IsBestBelow on beats d xs m o) more (best_kept on beats d xs o n before.1 behind))
    ]

-- what is found is the best of the whole list
pub best_is : {X : Type 0} (on : X → Bool) (beats : X → X → Bool) (d : X) → IsOrder beats → (xs : List X) (o : Option ℕ) → best_by on beats xs ≡ o → IsBestBelow on beats d xs (length xs) o
best_is on beats d order xs o e =
    let all = best_below on beats d order xs (length xs) in
    subst (λ q. IsBestBelow on beats d xs (length xs) q) (best_by_is on beats d xs all.0 all.1 ∙ e) all.1

behind_no_better : (p r q r' : ℕ) (k k' : ℤ) → goes_before p r k q r' k' ≡ false → p ≤ q
behind_no_better p r q r' k k' e = grind (arith, nat_tests)

module _ (s : State) (c p : ℕ) where
  ready_inside : (u : ℕ) → is_ready c p (places s u) ≡ true → u < length s.threads
  ready_inside u ready = elim (cases_lt u (length s.threads)) [
    | inl inside ↦ inside
    | inr past ↦ absurd (false≢true (sym (ap (λ (x : ThreadState). is_ready c p x.place) (get_or_past s.threads u no_thread past)) ∙ ready))
  ]

  -- where there is no best, none is ready
  pub none_ready : best_ready_among c p s.threads ≡ None → (u : ℕ) → is_ready c p (places s u) ≡ true → ⊥
  unfolding best_ready_among
  none_ready e u ready =
      false≢true (sym (best_is (λ (x : ThreadState). is_ready c p x.place) beats no_thread beats_order s.threads None e u (ready_inside u ready)) ∙ ready)

  pub best_greatest : (b u : ℕ) → best_ready_among c p s.threads ≡ Some b → is_ready c p (places s u) ≡ true → eff_of s u ≤ eff_of s b
  unfolding best_ready_among
  best_greatest b u e ready =
      behind_no_better (eff_of s u) (queue_rank (places s u)) (eff_of s b) (queue_rank (places s b)) (key_of (places s u)) (key_of (places s b))
      ((best_is (λ (x : ThreadState). is_ready c p x.place) beats no_thread beats_order s.threads (Some b) e).unbeaten u (ready_inside u ready) ready)

-- a thread that runs is on no queue
pub running_not_queued : (c d : ℕ) (p : Place) → is_running c p ≡ true → is_queued d p ≡ false
running_not_queued c d (Running b) e = refl
running_not_queued c d _ e = absurd (false≢true e)
