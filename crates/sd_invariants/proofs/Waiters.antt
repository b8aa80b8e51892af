-- Who waits for a lock before and after an event.
use Rattle.std.proofs.Common.{◌≡◌, ◌≢◌, ℕ, ◌<◌, true, false, length, Option, Some, None, refl, sym, ap, ◌∙◌, subst, arith, inl, inr, ◌==◌}
use Rattle.std.specs.Prelude.{ℤ}
use Rattle.std.proofs.lemmas.Bool.{eqb-true}
use Rattle.sd_basics.proofs.Truths.{and_left}
use Rattle.sd_types.specs.declared.numbers.LockId.{LockId}
use Rattle.sd_types.specs.declared.numbers.Side.{Side}
use Rattle.sd_state.specs.declared.states.Place.{Place}
use Rattle.sd_state.specs.declared.states.Place.TheVariants.{Waiting}
use Rattle.sd_state.specs.declared.states.State.{State}
use Rattle.sd_state.specs.States.{thread_of, same_side}
use Rattle.sd_machine.specs.Threads.{is_waiting, is_waiting_at, best_waiter, has_waiters}
use Rattle.sd_frames.specs.Moves.{Step}
use Rattle.sd_frames.specs.Moves.Step.{Stay, Go}
use Rattle.sd_frames.proofs.Found.{waiter_found}
use Rattle.sd_frames.proofs.Searches.{has_waiters_at, waits_has, waiter_some}
use Rattle.sd_frames.proofs.PlaceTable.{Stepped}
use Rattle.sd_invariants.proofs.ScriptLemmas.{StepAway}
use Rattle.sd_invariants.proofs.Movers.{MoverIs}
use Rattle.sd_machine.proofs.Moves.{put_cases}
use Rattle.sd_machine.proofs.PlaceLemmas.{is_waiter}

-- who waits for the lock goes on waiting
pub record Stays (s r : State) (l : ℕ) : Type 0 where
  pub each : (u : ℕ) → is_waiting l (thread_of s u).place ≡ true → (thread_of r u).place ≡ (thread_of s u).place

-- who waits for the lock waited before
pub record Waited (s r : State) (l : ℕ) : Type 0 where
  pub each : (u : ℕ) → is_waiting l (thread_of r u).place ≡ true → (thread_of r u).place ≡ (thread_of s u).place

waits_away : (l : ℕ) (p : Place) → is_waiter p ≡ false → is_waiting l p ≡ true → ⊥
waits_away l (Waiting m side k) away on = cc
waits_away l p away on = cc

-- a thread waits for one lock
one_lock : (l m : ℕ) (p : Place) → is_waiting l p ≡ true → is_waiting m p ≡ true → m ≡ l
one_lock l m (Waiting k side j) a b = sym (eqb-true k.0 m b) ∙ eqb-true k.0 l a
one_lock l m p a b = cc

pub side_waits : (l : ℕ) (side : Side) (p : Place) → is_waiting_at l side p ≡ true → is_waiting l p ≡ true
side_waits l side (Waiting m other k) on = and_left (m.0 == l) (same_side side other) on
side_waits l side p on = cc

-- By the step.

pub quiet_stays : (step : Step) (s r : State) → Stepped step s r → MoverIs s step → (l : ℕ) → Stays s r l
quiet_stays Stay s r a is l = record { each = λ u on. a u }
quiet_stays (Go m p) s r a is l = record {
  each = λ u on. elim (put_cases m p _ _ a u) [
    | inl me ↦ absurd (waits_away l (thread_of s m).place is.away (subst (λ v. is_waiting l (thread_of s v).place ≡ true) me.0 on))
    | inr other ↦ other.1
  ];
}

pub away_waited : (step : Step) (s r : State) → Stepped step s r → StepAway step → (l : ℕ) → Waited s r l
away_waited Stay s r a away l = record { each = λ u on. a u }
away_waited (Go m p) s r a away l = record {
  each = λ u on. elim (put_cases m p _ _ a u) [
    | inl me ↦ absurd (waits_away l p away (subst (λ q. is_waiting l q ≡ true) me.1 on))
    | inr other ↦ other.1
  ];
}

-- where a wait for lock l ends, the waiters of the other locks stay
pub others_stay : (m : ℕ) (p : Place) (s r : State) (l : ℕ) → Stepped (Go m p) s r → is_waiting l (thread_of s m).place ≡ true → (k : ℕ) → k ≢ l → Stays s r k
others_stay m p s r l a waits k other = record {
  each = λ u on. elim (put_cases m p _ _ a u) [
    | inl me ↦ absurd (other (one_lock l k (thread_of s m).place waits (subst (λ v. is_waiting k (thread_of s v).place ≡ true) me.0 on)))
    | inr him ↦ him.1
  ];
}

-- where a wait for lock l begins, the waiters of the other locks waited before
pub others_waited : (m : ℕ) (l : LockId) (side : Side) (j : ℤ) (s r : State) → Stepped (Go m (Waiting l side j)) s r → (k : ℕ) → k ≢ l.0 → Waited s r k
others_waited m l side j s r a k other = record {
  each = λ u on. elim (put_cases m (Waiting l side j) _ _ a u) [
    | inl me ↦ absurd (other (sym (eqb-true l.0 k (subst (λ q. is_waiting k q ≡ true) me.1 on))))
    | inr him ↦ him.1
  ];
}

-- What follows.

module _ (s r : State) (many : length r.threads ≡ length s.threads) (l : ℕ) where
  pub stays_has : Stays s r l → has_waiters s l ≡ true → has_waiters r l ≡ true
  stays_has stays some =
      let (t, inside, on) = has_waiters_at s l some in
      waits_has r l t (omega (arith, many, inside)) (ap (λ p. is_waiting l p) (stays.each t on) ∙ on)

  pub stays_best : Stays s r l → (side : Side) → best_waiter s l side ≢ None → best_waiter r l side ≢ None
  stays_best stays side some = by (best_waiter s l side) refl
    where
      by : (o : Option ℕ) → best_waiter s l side ≡ o → best_waiter r l side ≢ None
      by None e = absurd (some e)
      by (Some t) e =
          let found = waiter_found s l side t e in
          let inside : t < length s.threads = found.inside in
          waiter_some r l side t (omega (arith, many, inside)) (ap (λ p. is_waiting_at l side p) (stays.each t (side_waits l side (thread_of s t).place found.stands)) ∙ found.stands)

  pub waited_has : Waited s r l → has_waiters r l ≡ true → has_waiters s l ≡ true
  waited_has waited some =
      let (t, inside, on) = has_waiters_at r l some in
      waits_has s l t (omega (arith, many, inside)) (ap (λ p. is_waiting l p) (sym (waited.each t on)) ∙ on)
