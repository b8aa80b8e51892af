-- What is told by comparing the key of a duty with those of threads: whom to wake, and where a walk goes.
use Rattle.std.proofs.Common.{◌≡◌, ℕ, true, not, ◌&&◌, ◌==◌, ℤ, int_lt, refl, sym, ap, ◌∙◌, subst, arith}
use Rattle.std.specs.Ordering.{int_eq}
use Rattle.std.proofs.lemmas.Bool.Decides.{nat_tests}
use Rattle.std.proofs.lemmas.Int.{ints}
use Rattle.sd_basics.proofs.Truths.{and_left}
use Rattle.sd_types.specs.declared.numbers.ChanId.{ChanId}
use Rattle.sd_types.specs.declared.numbers.CpuId.{CpuId}
use Rattle.sd_types.specs.declared.numbers.ThreadId.{ThreadId}
use Rattle.sd_types.specs.declared.events.Duty.{Duty}
use Rattle.sd_types.specs.declared.events.Duty.TheVariants as duty
use Rattle.sd_state.specs.declared.states.Place.{Place}
use Rattle.sd_state.specs.declared.states.Place.TheVariants.{Running, Queued, RealTime, Waiting, Asleep, Napping, Ended}
use Rattle.sd_state.specs.declared.states.State.{State}
use Rattle.sd_state.specs.States.{cpu_of, no_thread, thread_of}
use Rattle.sd_state.specs.Best.{beats}
use Rattle.sd_machine.specs.Sleeping.{rouse_key}
use Rattle.sd_machine.specs.Threads.{best_sleeper_below, is_asleep, is_asleep_below}
use Rattle.sd_machine.specs.Walking.{is_back}
use Rattle.sd_store.specs.Walks.{next_to_rouse}
use Rattle.sd_encoding.specs.Order.{OfThread, OfCpu, IsSleeperKey, is_below, key_at, key_in}
use Rattle.sd_encoding.proofs.AlikeLemmas.{duty_alike, duty_rekeyed, duty_with, key_or_zero, place_alike, place_rekeyed, place_with, threads_many}
use Rattle.sd_encoding.proofs.ListLemmas.{best_same}
use Rattle.sd_encoding.proofs.SourceLemmas.{AreAlike}
use Rattle.sd_encoding.proofs.TellLemmas.{asleep_blind, asleep_key, beats_same}

-- Whom to wake.

-- a thread and a duty with other keys: the thread is one of those to be woken in both or in neither
below_same : (k : ℕ) (p : Place) (d : Duty) (i j : ℤ) → is_below (key_at p) (key_in d) ≡ is_below (key_at (place_with p i)) (key_in (duty_with d j))
    → IsSleeperKey p → IsSleeperKey (place_with p i) → is_asleep_below k (rouse_key d) p ≡ is_asleep_below k (rouse_key (duty_with d j)) (place_with p i)
below_same k (Asleep m key) (duty.Rouse r below) i j e f g = ap (λ b. (m.0 == k) && b) e
below_same k (Asleep m key) (duty.Walk l seek at) i j e f g = ap (λ b. (m.0 == k) && b) (f ∙ sym g)
below_same k (Asleep m key) duty.Nothing i j e f g = ap (λ b. (m.0 == k) && b) (f ∙ sym g)
below_same k (Asleep m key) (duty.WakeMutex l) i j e f g = ap (λ b. (m.0 == k) && b) (f ∙ sym g)
below_same k (Asleep m key) (duty.GrantWriter l) i j e f g = ap (λ b. (m.0 == k) && b) (f ∙ sym g)
below_same k (Asleep m key) (duty.GrantReaders l) i j e f g = ap (λ b. (m.0 == k) && b) (f ∙ sym g)
below_same k (Asleep m key) (duty.Age u) i j e f g = ap (λ b. (m.0 == k) && b) (f ∙ sym g)
below_same k p d i j e f g = refl

asleep_too : (k : ℕ) (below : ℤ) (p : Place) → is_asleep_below k below p ≡ true → is_asleep k p ≡ true
asleep_too k below (Asleep m key) e = and_left (m.0 == k) (int_lt key below) e
asleep_too k below p e = cc

-- Where a walk goes.

equal_is : (a b : ℤ) → int_eq a b ≡ (not (int_lt a b) && not (int_lt b a))
equal_is a b = grind (arith, nat_tests, ints)

pub equal_same : (a b a' b' : ℤ) → int_lt a b ≡ int_lt a' b' → int_lt b a ≡ int_lt b' a' → int_eq a b ≡ int_eq a' b'
equal_same a b a' b' e f = equal_is a b ∙ (λ i. not (e i) && not (f i)) ∙ sym (equal_is a' b')

back_same : (d : Duty) (o : ThreadId) (p : Place) (i j : ℤ) → is_below (key_in d) (key_at p) ≡ is_below (key_in (duty_with d j)) (key_at (place_with p i))
    → is_below (key_at p) (key_in d) ≡ is_below (key_at (place_with p i)) (key_in (duty_with d j)) → is_back d o p ≡ is_back (duty_with d j) o (place_with p i)
back_same (duty.Walk l seek key) o (Waiting m side k) i j e f = ap (λ b. (seek.0 == o.0) && b) (equal_same key k j i e f)
back_same (duty.Walk l seek key) o (Running c) i j e f = refl
back_same (duty.Walk l seek key) o (Queued c k) i j e f = refl
back_same (duty.Walk l seek key) o (RealTime q k) i j e f = refl
back_same (duty.Walk l seek key) o (Asleep m k) i j e f = refl
back_same (duty.Walk l seek key) o (Napping c due) i j e f = refl
back_same (duty.Walk l seek key) o Ended i j e f = refl
back_same duty.Nothing o p i j e f = refl
back_same (duty.WakeMutex l) o p i j e f = refl
back_same (duty.GrantWriter l) o p i j e f = refl
back_same (duty.GrantReaders l) o p i j e f = refl
back_same (duty.Rouse k below) o p i j e f = refl
back_same (duty.Age u) o p i j e f = refl

module _ (n m : ℕ) (x s : State) (h : AreAlike n m x s) where
  pub place_is : (t : ℕ) → (thread_of s t).place ≡ place_with (thread_of x t).place (key_or_zero (key_at (thread_of s t).place))
  place_is t = place_rekeyed (thread_of x t).place (thread_of s t).place (place_alike x s h.same.bare t)

  pub duty_is : (c : ℕ) → (cpu_of s c).duty ≡ duty_with (cpu_of x c).duty (key_or_zero (key_in (cpu_of s c).duty))
  duty_is c = duty_rekeyed (cpu_of x c).duty (cpu_of s c).duty (duty_alike x s h.same.bare c)

  to_rouse_same : (c k t : ℕ) → is_asleep_below k (rouse_key (cpu_of x c).duty) (thread_of x t).place ≡ is_asleep_below k (rouse_key (cpu_of s c).duty) (thread_of s t).place
  to_rouse_same c k t =
      let i = key_or_zero (key_at (thread_of s t).place) in
      let j = key_or_zero (key_in (cpu_of s c).duty) in
      let order : is_below (key_at (thread_of x t).place) (key_in (cpu_of x c).duty) ≡ is_below (key_at (place_with (thread_of x t).place i)) (key_in (duty_with (cpu_of x c).duty j)) =
      h.same.order (OfThread t) (OfCpu c) ∙ (λ a. is_below (key_at (place_is t a)) (key_in (duty_is c a))) in
      below_same k (thread_of x t).place (cpu_of x c).duty i j order (h.own.sleepers t) (subst IsSleeperKey (place_is t) (h.keys.sleepers t))
      ∙ sym (λ a. is_asleep_below k (rouse_key (duty_is c a)) (place_is t a))

  pub rouse_same : (c : CpuId) (k : ChanId) → next_to_rouse x c k ≡ next_to_rouse s c k
  unfolding next_to_rouse best_sleeper_below
  rouse_same c k =
      best_same no_thread (λ y. is_asleep_below k.0 (rouse_key (cpu_of x c.0).duty) y.place) (λ y. is_asleep_below k.0 (rouse_key (cpu_of s c.0).duty) y.place) beats x.threads s.threads
      (threads_many x s h.same.bare) (to_rouse_same c.0 k.0)
      (λ t u a b. beats_same x s h.same (is_asleep k.0) (asleep_blind k.0) (asleep_key k.0) t u (asleep_too k.0 (rouse_key (cpu_of x c.0).duty) (thread_of x t).place a) (asleep_too k.0 (rouse_key (cpu_of x c.0).duty) (thread_of x u).place b))

  pub is_back_same : (c : CpuId) (o : ThreadId) → is_back (cpu_of x c.0).duty o (thread_of x o.0).place ≡ is_back (cpu_of s c.0).duty o (thread_of s o.0).place
  is_back_same c o =
      let i = key_or_zero (key_at (thread_of s o.0).place) in
      let j = key_or_zero (key_in (cpu_of s c.0).duty) in
      back_same (cpu_of x c.0).duty o (thread_of x o.0).place i j
      (h.same.order (OfCpu c.0) (OfThread o.0) ∙ (λ a. is_below (key_in (duty_is c.0 a)) (key_at (place_is o.0 a))))
      (h.same.order (OfThread o.0) (OfCpu c.0) ∙ (λ a. is_below (key_at (place_is o.0 a)) (key_in (duty_is c.0 a))))
      ∙ sym (λ a. is_back (duty_is c.0 a) o (place_is o.0 a))
