-- Where a search finds nobody, nobody stands there; and a lock has waiters exactly where somebody waits for it.
use Rattle.std.proofs.Common.{◌≡◌, ◌≢◌, ℕ, zero, suc, ◌<◌, Bool, true, false, ◌||◌, List, [], ◌∷◌, length, get_or, None, refl, sym, ◌∙◌, subst, arith}
use Rattle.std.specs.List.{list_any}
use Rattle.std.proofs.lemmas.Bool.{false≢true}
use Rattle.sd_types.specs.declared.numbers.Side.{Side}
use Rattle.sd_state.specs.declared.states.ThreadState.{ThreadState}
use Rattle.sd_state.specs.declared.states.State.{State}
use Rattle.sd_state.specs.States.{thread_of, no_thread, is_running}
use Rattle.sd_state.specs.Best.{best_by, beats, running}
use Rattle.sd_machine.specs.Threads.{is_waiting, is_waiting_at, is_asleep, best_waiter, best_sleeper, has_waiters, runner}
use Rattle.sd_state.proofs.BestLemmas.{IsOrder, IsBestBelow, best_by_is}
use Rattle.sd_state.proofs.OrderLemmas.{beats_order}
use Rattle.sd_state.proofs.Chosen.{best_below, runs_none}

pub none_stands : {X : Type 0} (on : X → Bool) (before : X → X → Bool) (d : X) → IsOrder before → (xs : List X) → best_by on before xs ≡ None → (k : ℕ) → k < length xs → on (get_or xs k d) ≡ false
none_stands on before d order xs none k inside =
    let (o, is) = best_below on before d order xs (length xs) in
    let gone : o ≡ None = best_by_is on before d xs o is ∙ none in
    (subst (λ q. IsBestBelow on before d xs (length xs) q) gone is) k inside

pub some_stands : {X : Type 0} (on : X → Bool) (before : X → X → Bool) (d : X) → IsOrder before → (xs : List X) (k : ℕ) → k < length xs → on (get_or xs k d) ≡ true → best_by on before xs ≢ None
some_stands on before d order xs k inside stands none = false≢true (sym (none_stands on before d order xs none k inside) ∙ stands)

pub waiter_none : (s : State) (l : ℕ) (side : Side) → best_waiter s l side ≡ None → (t : ℕ) → t < length s.threads → is_waiting_at l side (thread_of s t).place ≡ false
unfolding best_waiter
waiter_none s l side none t inside = none_stands (λ x. is_waiting_at l side x.place) beats no_thread beats_order s.threads none t inside

pub waiter_some : (s : State) (l : ℕ) (side : Side) (t : ℕ) → t < length s.threads → is_waiting_at l side (thread_of s t).place ≡ true → best_waiter s l side ≢ None
unfolding best_waiter
waiter_some s l side t inside stands = some_stands (λ x. is_waiting_at l side x.place) beats no_thread beats_order s.threads t inside stands

pub sleeper_some : (s : State) (k t : ℕ) → t < length s.threads → is_asleep k (thread_of s t).place ≡ true → best_sleeper s k ≢ None
unfolding best_sleeper
sleeper_some s k t inside stands = some_stands (λ x. is_asleep k x.place) beats no_thread beats_order s.threads t inside stands

any_at : {X : Type 0} (p : X → Bool) (xs : List X) (d : X) → list_any p xs ≡ true → (k : ℕ) × (k < length xs) × (p (get_or xs k d) ≡ true)
any_at p [] d e = cc
any_at p (x ∷ xs) d e = by (λ f. any_at p xs d f) (p x) refl e
  where
    by : (list_any p xs ≡ true → (k : ℕ) × (k < length xs) × (p (get_or xs k d) ≡ true)) → (b : Bool) → p x ≡ b → (b || list_any p xs) ≡ true → (k : ℕ) × (k < length (x ∷ xs)) × (p (get_or (x ∷ xs) k d) ≡ true)
    by more true is e = (0, omega arith, is)
    by more false is e = let (k, inside, at) = more e in (suc k, omega arith, at)

at_any : {X : Type 0} (p : X → Bool) (xs : List X) (d : X) (k : ℕ) → k < length xs → p (get_or xs k d) ≡ true → list_any p xs ≡ true
at_any p [] d k inside is = absurd (omega arith)
at_any p (x ∷ xs) d zero inside is = rw is refl
at_any p (x ∷ xs) d (suc k) inside is = let rest = at_any p xs d k (omega arith) is in either (p x) rest
  where
    either : (b : Bool) → list_any p xs ≡ true → (b || list_any p xs) ≡ true
    either true e = refl
    either false e = e

pub has_waiters_at : (s : State) (l : ℕ) → has_waiters s l ≡ true → (t : ℕ) × (t < length s.threads) × (is_waiting l (thread_of s t).place ≡ true)
unfolding has_waiters
has_waiters_at s l e = any_at (λ (x : ThreadState). is_waiting l x.place) s.threads no_thread e

pub waits_has : (s : State) (l t : ℕ) → t < length s.threads → is_waiting l (thread_of s t).place ≡ true → has_waiters s l ≡ true
unfolding has_waiters
waits_has s l t inside e = at_any (λ (x : ThreadState). is_waiting l x.place) s.threads no_thread t inside e

pub nobody_runs : (s : State) (c : ℕ) → runner s c ≡ None → (t : ℕ) → is_running c (thread_of s t).place ≡ false
unfolding runner running
nobody_runs s c none t = runs_none s c none t
