-- What a look-up tells of states whose keys have the same order: the same of each.
use Rattle.std.proofs.Common.{◌≡◌, ℕ, ◌+◌, ◌-◌, Bool, true, ◌&&◌, List, [], ◌∷◌, length, map, get_or, drop, set, int_lt, Some, is_none, option_map, refl, sym, ap, ◌∙◌}
use Rattle.std.specs.Prelude.{nat_le, nat_lt}
use Rattle.std.proofs.lemmas.List.{get_or-drop, length-drop, map-set}
use Rattle.sd_basics.proofs.Truths.{and_left}
use Rattle.sd_types.specs.declared.numbers.LockId.{LockId}
use Rattle.sd_types.specs.declared.numbers.Side.{Side}
use Rattle.sd_types.specs.declared.works.Work.{Work}
use Rattle.sd_types.specs.Priorities.{eff}
use Rattle.sd_state.specs.declared.states.CpuState.{CpuState}
use Rattle.sd_state.specs.declared.states.Place.{Place}
use Rattle.sd_state.specs.declared.states.Place.TheVariants.{Running, Queued, RealTime, Waiting, Asleep, Ended}
use Rattle.sd_state.specs.declared.states.ThreadState.{ThreadState}
use Rattle.sd_state.specs.declared.states.State.{State}
use Rattle.sd_state.specs.States.{cpu_of, is_queued, is_ready, is_running, key_of, no_cpu, no_thread, thread_of}
use Rattle.sd_state.specs.Best.{beats, best_by, queue_rank}
use Rattle.sd_machine.specs.Threads.{best_queued, count_of, lock_of, open_of, best_ready, best_sleeper, best_unbound, best_waiter, due_of, first_due, greatest_waiting, has_waiters, is_asleep, is_due, is_ts, is_waiting, is_waiting_at, naps_less, next_to_age, runner}
use Rattle.sd_machine.specs.Locking.{others_waiting}
use Rattle.sd_machine.specs.Events.{may_tick}
use Rattle.sd_store.specs.Keyless.{spot_of, task_of}
use Rattle.sd_store.specs.Parts.{view_of}
use Rattle.sd_encoding.specs.Order.{OfThread, IsSameOrder, bare_thread, is_below, key_at}
use Rattle.sd_encoding.proofs.AlikeLemmas.{IsBlind, blind_duty, blind_place, spot_blind, task_blind, body_same, cpu_alike, cpus_many, duty_alike, place_alike, thread_alike, threads_many}
use Rattle.sd_encoding.proofs.ListLemmas.{best_same, position_same, all_same, any_same}

-- Tests of places that look at no key.

running_blind : (c : ℕ) → IsBlind (is_running c)
running_blind c (Running d) = refl
running_blind c _ = refl

queued_blind : (c : ℕ) → IsBlind (is_queued c)
queued_blind c (Running d) = refl
queued_blind c _ = refl

ready_blind : (c p : ℕ) → IsBlind (is_ready c p)
ready_blind c p (Running d) = refl
ready_blind c p _ = refl

waiting_blind : (l : ℕ) → IsBlind (is_waiting l)
waiting_blind l (Running d) = refl
waiting_blind l _ = refl

waiting_at_blind : (l : ℕ) (side : Side) → IsBlind (is_waiting_at l side)
waiting_at_blind l side (Running d) = refl
waiting_at_blind l side _ = refl

pub asleep_blind : (k : ℕ) → IsBlind (is_asleep k)
asleep_blind k (Running d) = refl
asleep_blind k _ = refl

due_blind : (c count : ℕ) → IsBlind (is_due c count)
due_blind c count (Running d) = refl
due_blind c count _ = refl

due_of_blind : IsBlind due_of
due_of_blind (Running d) = refl
due_of_blind _ = refl

rank_blind : IsBlind queue_rank
rank_blind (Running d) = refl
rank_blind _ = refl

-- Who stands somewhere has a key there, and the order is that of keys.

queued_key : (c : ℕ) (place : Place) → is_queued c place ≡ true → key_at place ≡ Some (key_of place)
queued_key c (Queued d key) h = refl
queued_key c place h = cc

ready_key : (c p : ℕ) (place : Place) → is_ready c p place ≡ true → key_at place ≡ Some (key_of place)
ready_key c p (Queued d key) h = refl
ready_key c p (RealTime q key) h = refl
ready_key c p place h = cc

waiting_key : (l : ℕ) (side : Side) (place : Place) → is_waiting_at l side place ≡ true → key_at place ≡ Some (key_of place)
waiting_key l side (Waiting m other key) h = refl
waiting_key l side place h = cc

pub asleep_key : (k : ℕ) (place : Place) → is_asleep k place ≡ true → key_at place ≡ Some (key_of place)
asleep_key k (Asleep j key) h = refl
asleep_key k place h = cc

-- a test of places that only those with a key pass
abbrev pub HasKey : (Place → Bool) → Type 0
HasKey on = (place : Place) → on place ≡ true → key_at place ≡ Some (key_of place)

-- where there are keys in both, the first is the smaller one in both or in neither
keys_lie : (p q p' q' : Place) → key_at p ≡ Some (key_of p) → key_at q ≡ Some (key_of q) → key_at p' ≡ Some (key_of p') → key_at q' ≡ Some (key_of q')
    → is_below (key_at p) (key_at q) ≡ is_below (key_at p') (key_at q') → int_lt (key_of p) (key_of q) ≡ int_lt (key_of p') (key_of q')
keys_lie p q p' q' a b c d e = sym (λ i. is_below (a i) (b i)) ∙ e ∙ (λ i. is_below (c i) (d i))

-- the waiters of a lock are the same without keys
greatest_bare : (l : ℕ) (xs : List ThreadState) → greatest_waiting l (map bare_thread xs) ≡ greatest_waiting l xs
unfolding greatest_waiting
greatest_bare l [] = refl
greatest_bare l (y ∷ ys) = rw (waiting_blind l y.place, greatest_bare l ys) refl

module _ (x s : State) (h : IsSameOrder x s) where
  tests : (on : Place → Bool) → IsBlind on → (t : ℕ) → on (thread_of x t).place ≡ on (thread_of s t).place
  tests on blind t = blind_place on blind (thread_of x t).place (thread_of s t).place (place_alike x s h.bare t)

  pub eff_same : (t : ℕ) → eff (thread_of x t).body ≡ eff (thread_of s t).body
  eff_same t = ap eff (body_same x s h.bare t)

  -- of two that pass a test of those with a key, the one beats the other in both or in neither
  pub beats_same : (on : Place → Bool) → IsBlind on → HasKey on → (t u : ℕ) → on (thread_of x t).place ≡ true → on (thread_of x u).place ≡ true
      → beats (thread_of x t) (thread_of x u) ≡ beats (thread_of s t) (thread_of s u)
  beats_same on blind keyed t u a b =
      let less : int_lt (key_of (thread_of x t).place) (key_of (thread_of x u).place) ≡ int_lt (key_of (thread_of s t).place) (key_of (thread_of s u).place) =
      keys_lie (thread_of x t).place (thread_of x u).place (thread_of s t).place (thread_of s u).place
      (keyed (thread_of x t).place a) (keyed (thread_of x u).place b) (keyed (thread_of s t).place (sym (tests on blind t) ∙ a)) (keyed (thread_of s u).place (sym (tests on blind u) ∙ b))
      (h.order (OfThread t) (OfThread u)) in
      rw (eff_same t, eff_same u, blind_place queue_rank rank_blind (thread_of x t).place (thread_of s t).place (place_alike x s h.bare t), blind_place queue_rank rank_blind (thread_of x u).place (thread_of s u).place (place_alike x s h.bare u), less)

  pub runner_same : (c : ℕ) → runner x c ≡ runner s c
  unfolding runner
  runner_same c = position_same no_thread (λ y. is_running c y.place) (λ y. is_running c y.place) x.threads s.threads (threads_many x s h.bare) (tests (is_running c) (running_blind c))

  best_among : (on : Place → Bool) → IsBlind on → HasKey on → best_by (λ y. on y.place) beats x.threads ≡ best_by (λ y. on y.place) beats s.threads
  best_among on blind keyed = best_same no_thread (λ y. on y.place) (λ y. on y.place) beats x.threads s.threads (threads_many x s h.bare) (tests on blind) (beats_same on blind keyed)

  pub set_same : (c : ℕ) → (cpu_of x c).set.0 ≡ (cpu_of s c).set.0
  set_same c = ap (λ (y : CpuState). y.set.0) (cpu_alike x s h.bare c)

  pub count_same : (c : ℕ) → (cpu_of x c).count ≡ (cpu_of s c).count
  count_same c = ap (λ (y : CpuState). y.count) (cpu_alike x s h.bare c)

  pub best_ready_same : (c : ℕ) → best_ready x c ≡ best_ready s c
  unfolding best_ready
  best_ready_same c =
      best_among (is_ready c (cpu_of x c).set.0) (ready_blind c (cpu_of x c).set.0) (ready_key c (cpu_of x c).set.0)
      ∙ ap (λ (p : ℕ). best_by (λ y. is_ready c p y.place) beats s.threads) (set_same c)

  pub best_queued_same : (c : ℕ) → best_queued x c ≡ best_queued s c
  unfolding best_queued
  best_queued_same c = best_among (is_queued c) (queued_blind c) (queued_key c)

  pub best_waiter_same : (l : ℕ) (side : Side) → best_waiter x l side ≡ best_waiter s l side
  unfolding best_waiter
  best_waiter_same l side = best_among (is_waiting_at l side) (waiting_at_blind l side) (waiting_key l side)

  pub best_sleeper_same : (k : ℕ) → best_sleeper x k ≡ best_sleeper s k
  unfolding best_sleeper
  best_sleeper_same k = best_among (is_asleep k) (asleep_blind k) (asleep_key k)

  is_unbound_same : (c t : ℕ) → (is_queued c (thread_of x t).place && is_none (thread_of x t).body.bound) ≡ (is_queued c (thread_of s t).place && is_none (thread_of s t).body.bound)
  is_unbound_same c t = rw (tests (is_queued c) (queued_blind c) t, body_same x s h.bare t) refl

  pub best_unbound_same : (c : ℕ) → best_unbound x c ≡ best_unbound s c
  unfolding best_unbound
  best_unbound_same c =
      best_same no_thread (λ y. is_queued c y.place && is_none y.body.bound) (λ y. is_queued c y.place && is_none y.body.bound) beats x.threads s.threads (threads_many x s h.bare)
      (is_unbound_same c) (λ t u a b. beats_same (is_queued c) (queued_blind c) (queued_key c) t u (and_left _ _ a) (and_left _ _ b))

  naps_same : (t u : ℕ) → naps_less (thread_of x t) (thread_of x u) ≡ naps_less (thread_of s t) (thread_of s u)
  naps_same t u =
      rw (blind_place due_of due_of_blind (thread_of x t).place (thread_of s t).place (place_alike x s h.bare t), blind_place due_of due_of_blind (thread_of x u).place (thread_of s u).place (place_alike x s h.bare u)) refl

  pub first_due_same : (c : ℕ) → first_due x c ≡ first_due s c
  unfolding first_due
  first_due_same c =
      best_same no_thread (λ y. is_due c (cpu_of x c).count y.place) (λ y. is_due c (cpu_of x c).count y.place) naps_less x.threads s.threads (threads_many x s h.bare)
      (tests (is_due c (cpu_of x c).count) (due_blind c (cpu_of x c).count)) (λ t u a b. naps_same t u)
      ∙ ap (λ (count : ℕ). best_by (λ y. is_due c count y.place) naps_less s.threads) (count_same c)

  pub has_waiters_same : (l : ℕ) → has_waiters x l ≡ has_waiters s l
  unfolding has_waiters
  has_waiters_same l = any_same no_thread (λ y. is_waiting l y.place) (λ y. is_waiting l y.place) x.threads s.threads (threads_many x s h.bare) (tests (is_waiting l) (waiting_blind l))

  pub view_same : (c : ℕ) → view_of (cpu_of x c) ≡ view_of (cpu_of s c)
  view_same c = ap view_of (cpu_alike x s h.bare c)

  pub spot_same : (t : ℕ) → spot_of (thread_of x t).place ≡ spot_of (thread_of s t).place
  spot_same t = blind_place spot_of spot_blind (thread_of x t).place (thread_of s t).place (place_alike x s h.bare t)

  pub task_same : (c : ℕ) → task_of (cpu_of x c).duty ≡ task_of (cpu_of s c).duty
  task_same c = blind_duty task_of task_blind (cpu_of x c).duty (cpu_of s c).duty (duty_alike x s h.bare c)

  pub lock_same : (l : ℕ) → lock_of x l ≡ lock_of s l
  lock_same l = ap (λ (z : State). lock_of z l) h.bare

  pub count_of_same : (k : ℕ) → count_of x k ≡ count_of s k
  count_of_same k = ap (λ (z : State). count_of z k) h.bare

  pub open_same : (p : ℕ) → open_of x p ≡ open_of s p
  open_same p = ap (λ (z : State). open_of z p) h.bare

  pub next_to_age_same : (c u : ℕ) → next_to_age x c u ≡ next_to_age s c u
  unfolding next_to_age
  next_to_age_same c u =
      let many : length (drop u x.threads) ≡ length (drop u s.threads) = length-drop u x.threads ∙ ap (λ m. m - u) (threads_many x s h.bare) ∙ sym (length-drop u s.threads) in
      ap (option_map (λ i. u + i)) (position_same no_thread (λ y. is_queued c y.place && is_ts y.body.class) (λ y. is_queued c y.place && is_ts y.body.class) (drop u x.threads) (drop u s.threads) many
      (λ i. ages (u + i) (get_or (drop u x.threads) i no_thread) (get_or (drop u s.threads) i no_thread) (get_or-drop u x.threads i no_thread) (get_or-drop u s.threads i no_thread)))
    where
      ages : (t : ℕ) (y z : ThreadState) → y ≡ thread_of x t → z ≡ thread_of s t → (is_queued c y.place && is_ts y.body.class) ≡ (is_queued c z.place && is_ts z.body.class)
      ages t y z e f = rw (e, f) (λ i. tests (is_queued c) (queued_blind c) t i && is_ts (body_same x s h.bare t i).class)

  pub may_tick_same : (w : Work) (c : ℕ) → may_tick w x c ≡ may_tick w s c
  unfolding may_tick
  may_tick_same w c =
      rw (count_same c) (ap (λ b. nat_lt (cpu_of s c).count w.limit && b) (all_same no_cpu (λ y. nat_le (cpu_of s c).count y.count) (λ y. nat_le (cpu_of s c).count y.count) x.cpus s.cpus (cpus_many x s h.bare)
      (λ d. ap (λ m. nat_le (cpu_of s c).count m) (count_same d))))

  pub greatest_same : (l : ℕ) → greatest_waiting l x.threads ≡ greatest_waiting l s.threads
  greatest_same l = sym (greatest_bare l x.threads) ∙ ap (λ (z : State). greatest_waiting l z.threads) h.bare ∙ greatest_bare l s.threads

  pub others_same : (l : LockId) (u : ℕ) → others_waiting x l u ≡ others_waiting s l u
  others_same l u =
      sym (greatest_bare l.0 (set x.threads u (record (thread_of x u) { place = Ended })))
      ∙ ap (greatest_waiting l.0) (map-set bare_thread x.threads u (record (thread_of x u) { place = Ended }))
      ∙ (λ i. greatest_waiting l.0 (set (h.bare i).threads u (record (thread_alike x s h.bare u i) { place = Ended })))
      ∙ sym (ap (greatest_waiting l.0) (map-set bare_thread s.threads u (record (thread_of s u) { place = Ended })))
      ∙ greatest_bare l.0 (set s.threads u (record (thread_of s u) { place = Ended }))
