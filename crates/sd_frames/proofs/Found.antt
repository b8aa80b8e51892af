-- The thread that a search finds is there, and stands where the search looks; where it finds none, none stands there.
use Rattle.std.proofs.Common.{◌≡◌, ℕ, zero, suc, ◌+◌, ◌<◌, Bool, true, ◌&&◌, List, [], ◌∷◌, length, get_or, drop, Option, Some, None, is_none, refl, ap, ◌∙◌, subst, arith}
use Rattle.std.specs.Prelude.{position, option_map, ℤ}
use Rattle.std.proofs.lemmas.List.Quantifiers.{position-Some}
use Rattle.sd_basics.proofs.Truths.{and_left}
use Rattle.sd_types.specs.declared.numbers.Side.{Side}
use Rattle.sd_state.specs.declared.states.ThreadState.{ThreadState}
use Rattle.sd_state.specs.declared.states.State.{State}
use Rattle.sd_state.specs.States.{thread_of, cpu_of, no_thread, is_running, is_queued, is_ready}
use Rattle.sd_state.specs.Best.{leads_by, best_by, beats}
use Rattle.sd_machine.specs.Threads.{is_ts, is_waiting_at, is_asleep, is_asleep_below, is_due, runner, best_ready, best_queued, best_unbound, best_waiter, best_sleeper, best_sleeper_below, naps_less, first_due, next_to_age}

-- the number that a search gives is one of a thread that passes
pub record IsFound (s : State) (on : ThreadState → Bool) (t : ℕ) : Type 0 where
  pub inside : t < length s.threads
  pub stands : on (thread_of s t) ≡ true

best_found : (s : State) (on : ThreadState → Bool) (before : ThreadState → ThreadState → Bool) (t : ℕ) → best_by on before s.threads ≡ Some t → IsFound s on t
best_found s on before t e =
    let found = position-Some (leads_by on before s.threads) s.threads t no_thread e in
    record { inside = found.0; stands = and_left (on (thread_of s t)) _ found.1 }

pub runner_found : (s : State) (c t : ℕ) → runner s c ≡ Some t → IsFound s (λ x. is_running c x.place) t
unfolding runner
runner_found s c t e =
    let found = position-Some (λ (x : ThreadState). is_running c x.place) s.threads t no_thread e in
    record { inside = found.0; stands = found.1 }

pub ready_found : (s : State) (c t : ℕ) → best_ready s c ≡ Some t → IsFound s (λ x. is_ready c (cpu_of s c).set.0 x.place) t
unfolding best_ready
ready_found s c t e = best_found s (λ x. is_ready c (cpu_of s c).set.0 x.place) beats t e

pub queued_found : (s : State) (c t : ℕ) → best_queued s c ≡ Some t → IsFound s (λ x. is_queued c x.place) t
unfolding best_queued
queued_found s c t e = best_found s (λ x. is_queued c x.place) beats t e

pub unbound_found : (s : State) (c t : ℕ) → best_unbound s c ≡ Some t → IsFound s (λ x. is_queued c x.place && is_none x.body.bound) t
unfolding best_unbound
unbound_found s c t e = best_found s (λ x. is_queued c x.place && is_none x.body.bound) beats t e

pub waiter_found : (s : State) (l : ℕ) (side : Side) (t : ℕ) → best_waiter s l side ≡ Some t → IsFound s (λ x. is_waiting_at l side x.place) t
unfolding best_waiter
waiter_found s l side t e = best_found s (λ x. is_waiting_at l side x.place) beats t e

pub sleeper_found : (s : State) (k t : ℕ) → best_sleeper s k ≡ Some t → IsFound s (λ x. is_asleep k x.place) t
unfolding best_sleeper
sleeper_found s k t e = best_found s (λ x. is_asleep k x.place) beats t e

pub sleeper_below_found : (s : State) (k : ℕ) (below : ℤ) (t : ℕ) → best_sleeper_below s k below ≡ Some t → IsFound s (λ x. is_asleep_below k below x.place) t
unfolding best_sleeper_below
sleeper_below_found s k below t e = best_found s (λ x. is_asleep_below k below x.place) beats t e

pub due_found : (s : State) (c t : ℕ) → first_due s c ≡ Some t → IsFound s (λ x. is_due c (cpu_of s c).count x.place) t
unfolding first_due
due_found s c t e = best_found s (λ x. is_due c (cpu_of s c).count x.place) naps_less t e

drop_at : {X : Type 0} (xs : List X) (u i : ℕ) (d : X) → get_or (drop u xs) i d ≡ get_or xs (u + i) d
drop_at xs zero i d = ap (λ j. get_or xs j d) (let e : i ≡ 0 + i = omega arith in e)
drop_at [] (suc u) i d = refl
drop_at (x ∷ xs) (suc u) i d = drop_at xs u i d ∙ ap (λ j. get_or (x ∷ xs) j d) (let e : suc (u + i) ≡ suc u + i = omega arith in e)

drop_inside : {X : Type 0} (xs : List X) (u i : ℕ) → i < length (drop u xs) → u + i < length xs
drop_inside xs zero i h = omega arith
drop_inside [] (suc u) i h = absurd (omega arith)
drop_inside (x ∷ xs) (suc u) i h = let more = drop_inside xs u i h in omega arith

pub age_found : (s : State) (c u t : ℕ) → next_to_age s c u ≡ Some t → IsFound s (λ x. is_queued c x.place && is_ts x.body.class) t
unfolding next_to_age
age_found s c u t e = by (position (λ (x : ThreadState). is_queued c x.place && is_ts x.body.class) (drop u s.threads)) refl e
  where
    by : (o : Option ℕ) → position (λ (x : ThreadState). is_queued c x.place && is_ts x.body.class) (drop u s.threads) ≡ o → option_map (λ i. u + i) o ≡ Some t → IsFound s (λ x. is_queued c x.place && is_ts x.body.class) t
    by None at is = cc
    by (Some i) at is =
        let found = position-Some (λ (x : ThreadState). is_queued c x.place && is_ts x.body.class) (drop u s.threads) i no_thread at in
        let same : u + i ≡ t = cc in
        subst (λ v. IsFound s (λ x. is_queued c x.place && is_ts x.body.class) v) same
        (record { inside = drop_inside s.threads u i found.0; stands = subst (λ x. (is_queued c x.place && is_ts x.body.class) ≡ true) (drop_at s.threads u i no_thread) found.1 })
