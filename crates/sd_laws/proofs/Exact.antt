-- The greatest effective priority of a lock's waiters is exact, and the effective priority is what the chains take it for.
use Rattle.std.proofs.Common.{◌≡◌, ℕ, zero, suc, ◌≤◌, true, false, max, List, [], ◌∷◌, get_or, Option, Some, None, refl, sym, ap, ◌∙◌, ◌⊎◌, inl, inr, arith}
use Rattle.std.specs.Prelude.{nat_lt}
use Rattle.std.specs.List.{list_any}
use Rattle.std.proofs.lemmas.Bool.{cases_Bool, cases_lt, eqb-true, eq-eqb, false≢true}
use Rattle.std.proofs.lemmas.Bool.Decides.{nat_tests}
use Rattle.std.proofs.lemmas.Option.{none-some, same_Some}
use Rattle.sd_types.specs.declared.numbers.LockId.{LockId}
use Rattle.sd_types.specs.Priorities.{eff, base_of, greatest_willed}
use Rattle.sd_types.specs.Scripts.{is_lock}
use Rattle.sd_types.specs.Willed.{Numbers, number_for, same_lock}
use Rattle.sd_types.specs.Works.{is_distinct}
use Rattle.sd_types.proofs.PriorityLemmas.{greatest-base}
use Rattle.sd_types.proofs.WilledLemmas.{for-here, for-later, lock_self}
use Rattle.sd_machine.specs.Graphs as G
use Rattle.sd_state.specs.declared.states.Place.{Place}
use Rattle.sd_state.specs.declared.states.Place.TheVariants.{Running, Queued, RealTime, Waiting, Asleep, Napping, Ended}
use Rattle.sd_state.specs.declared.states.ThreadState.{ThreadState}
use Rattle.sd_state.specs.declared.states.State.{State}
use Rattle.sd_state.specs.States.{thread_of, no_thread}
use Rattle.sd_machine.specs.Threads.{is_waiting, greater, greatest_waiting}
use Rattle.sd_machine.specs.LockGraph.{wait_of, graph}

-- what the scan of a list gives for the waiters of a lock
abbrev IsGreatestOf : ℕ → List ThreadState → Option ℕ → Type 0
IsGreatestOf l xs None = (t : ℕ) → is_waiting l (get_or xs t no_thread).place ≡ false
IsGreatestOf l xs (Some n) =
    ((t : ℕ) → is_waiting l (get_or xs t no_thread).place ≡ true → eff (get_or xs t no_thread).body ≤ n)
    × ((t : ℕ) × (is_waiting l (get_or xs t no_thread).place ≡ true) × (eff (get_or xs t no_thread).body ≡ n))

counted_in : (l : ℕ) (x : ThreadState) (xs : List ThreadState) (o : Option ℕ) → is_waiting l x.place ≡ true → IsGreatestOf l xs o → IsGreatestOf l (x ∷ xs) (Some (greater (eff x.body) o))
counted_in l x xs None here none = (at_most, (0, here, refl))
  where
    at_most : (t : ℕ) → is_waiting l (get_or (x ∷ xs) t no_thread).place ≡ true → eff (get_or (x ∷ xs) t no_thread).body ≤ eff x.body
    at_most zero on = omega arith
    at_most (suc t) on = absurd (false≢true (sym (none t) ∙ on))
counted_in l x xs (Some m) here great = (at_most, got)
  where
    at_most : (t : ℕ) → is_waiting l (get_or (x ∷ xs) t no_thread).place ≡ true → eff (get_or (x ∷ xs) t no_thread).body ≤ max (eff x.body) m
    at_most zero on = omega arith
    at_most (suc t) on = let r = great.0 t on in omega (arith, r)

    got : (t : ℕ) × (is_waiting l (get_or (x ∷ xs) t no_thread).place ≡ true) × (eff (get_or (x ∷ xs) t no_thread).body ≡ max (eff x.body) m)
    got = elim (cases_lt m (eff x.body)) [
      | inl less ↦ (0, here, omega (arith, less))
      | inr more ↦ (suc great.1.0, great.1.1, (let e = great.1.2 in omega (arith, e, more)))
    ]

passed_over : (l : ℕ) (x : ThreadState) (xs : List ThreadState) (o : Option ℕ) → is_waiting l x.place ≡ false → IsGreatestOf l xs o → IsGreatestOf l (x ∷ xs) o
passed_over l x xs None away none = none_at
  where
    none_at : (t : ℕ) → is_waiting l (get_or (x ∷ xs) t no_thread).place ≡ false
    none_at zero = away
    none_at (suc t) = none t
passed_over l x xs (Some m) away great = (at_most, (suc great.1.0, great.1.1, great.1.2))
  where
    at_most : (t : ℕ) → is_waiting l (get_or (x ∷ xs) t no_thread).place ≡ true → eff (get_or (x ∷ xs) t no_thread).body ≤ m
    at_most zero on = absurd (false≢true (sym away ∙ on))
    at_most (suc t) on = great.0 t on

greatest_of : (l : ℕ) (xs : List ThreadState) → IsGreatestOf l xs (greatest_waiting l xs)
unfolding greatest_waiting
greatest_of l [] = λ t. refl
greatest_of l (x ∷ xs) = elim (cases_Bool (is_waiting l x.place)) [
  | inl here ↦ rw here (counted_in l x xs (greatest_waiting l xs) here (greatest_of l xs))
  | inr away ↦ rw away (passed_over l x xs (greatest_waiting l xs) away (greatest_of l xs))
]

-- waiting, in both words
pub on_waits : (l : ℕ) (p : Place) → (w : G.Wait) × (wait_of p ≡ Some w) × (w.lock ≡ l) → is_waiting l p ≡ true
on_waits l (Waiting m side k) (w, is, at) = eq-eqb m.0 l (ap (λ (x : G.Wait). x.lock) (same_Some _ w is) ∙ at)
on_waits l (Running c) (w, is, at) = absurd (none-some w is)
on_waits l (Queued c k) (w, is, at) = absurd (none-some w is)
on_waits l (RealTime q k) (w, is, at) = absurd (none-some w is)
on_waits l (Asleep j k) (w, is, at) = absurd (none-some w is)
on_waits l (Napping c due) (w, is, at) = absurd (none-some w is)
on_waits l Ended (w, is, at) = absurd (none-some w is)

pub waits_on : (l : ℕ) (p : Place) → is_waiting l p ≡ true → (w : G.Wait) × (wait_of p ≡ Some w) × (w.lock ≡ l)
waits_on l (Waiting m side k) is = (record { lock = m.0; key = k }, refl, eqb-true m.0 l is)
waits_on l p is = absurd (false≢true is)

pub exact_waiting : (s : State) (l : ℕ) → G.IsExact (graph s) l (greatest_waiting l s.threads)
exact_waiting s l = by (greatest_waiting l s.threads) (greatest_of l s.threads)
  where
    by : (o : Option ℕ) → IsGreatestOf l s.threads o → G.IsExact (graph s) l o
    by None none = λ t on. false≢true (sym (none t) ∙ on_waits l (thread_of s t).place on)
    by (Some n) great = record {
      most = λ t on. great.0 t (on_waits l (thread_of s t).place on);
      got = (great.1.0, waits_on l (thread_of s great.1.0).place great.1.1, great.1.2);
    }

-- The effective priority is the maximum of the base priority and of the numbers.

willed_at_most : (n : ℕ) (ws : Numbers) (l : LockId) (k : ℕ) → number_for l ws ≡ Some k → k ≤ greatest_willed n ws
willed_at_most n [] l k e = absurd (none-some k e)
willed_at_most n (w ∷ ws) l k e = elim (cases_Bool (is_lock l w.0)) [
  | inl h ↦ let is : w.1 ≡ k = same_Some w.1 k (sym (for-here l w ws h) ∙ e) in omega (arith, is)
  | inr h ↦ let r = willed_at_most n ws l k (sym (for-later l w ws h) ∙ e) in omega (arith, r)
]

-- a number behind another is for another lock
behind_apart : (w : LockId × ℕ) (ws : Numbers) (l : LockId) (k : ℕ) → list_any (same_lock w) ws ≡ false → number_for l ws ≡ Some k → is_lock l w.0 ≡ false
behind_apart w [] l k none e = absurd (none-some k e)
behind_apart w (v ∷ vs) l k none e = elim (cases_Bool (is_lock l v.0)) [
  | inl h ↦ grind (arith, nat_tests)
  | inr h ↦ behind_apart w vs l k (grind (arith, nat_tests)) (sym (for-later l v vs h) ∙ e)
]

greatest_from : (n : ℕ) (ws : Numbers) → is_distinct same_lock ws ≡ true → (greatest_willed n ws ≡ n) ⊎ ((l : LockId) × (number_for l ws ≡ Some (greatest_willed n ws)))
greatest_from n [] d = inl refl
greatest_from n (w ∷ ws) d = elim (cases_Bool (nat_lt (greatest_willed n ws) w.1)) [
  | inl less ↦
      let is : max w.1 (greatest_willed n ws) ≡ w.1 = grind (arith, nat_tests) in
      inr (w.0, for-here w.0 w ws (lock_self w.0) ∙ ap Some (sym is))
  | inr not ↦
      let is : max w.1 (greatest_willed n ws) ≡ greatest_willed n ws = grind (arith, nat_tests) in
      let rest : is_distinct same_lock ws ≡ true = grind (arith, nat_tests) in
      let none : list_any (same_lock w) ws ≡ false = grind (arith, nat_tests) in
      elim (greatest_from n ws rest) [
        | inl base ↦ inl (is ∙ base)
        | inr (l, e) ↦ inr (l, for-later l w ws (behind_apart w ws l _ none e) ∙ e ∙ ap Some (sym is))
      ]
]

pub is_eff : (s : State) → ((t : ℕ) → is_distinct same_lock (thread_of s t).body.willed.items ≡ true) → G.IsEff (graph s)
is_eff s apart = record {
  base = λ t. greatest-base (base_of (thread_of s t).body.class) (thread_of s t).body.willed.items;
  willed = λ t l n is. willed_at_most (base_of (thread_of s t).body.class) (thread_of s t).body.willed.items (record { 0 = l }) n is;
  got = λ t. elim (greatest_from (base_of (thread_of s t).body.class) (thread_of s t).body.willed.items (apart t)) [
    | inl is ↦ inl is
    | inr (l, is) ↦ inr (l.0, is)
  ];
}
