-- What a pass over the threads finds is what processors show.
use Rattle.std.proofs.Common.{◌≡◌, ℕ, zero, suc, ◌+◌, ◌<◌, ◌≤◌, Bool, true, false, ◌&&◌, ◌||◌, cond, List, [], ◌∷◌, length, length-set, get_or, set, Option, Some, None, is_none, ◌⊎◌, inl, inr, refl, sym, ap, ◌∙◌, subst, arith, ◌==◌, get_or-set_same, get_or-set_other}
use Rattle.std.specs.List.{position}
use Rattle.std.specs.Prelude.{nat_lt}
use Rattle.std.proofs.lemmas.List.{get_or-replicate, length-replicate}
use Rattle.std.proofs.lemmas.Bool.{cases_Bool, cases_eq, eq-eqb}
use Rattle.std.proofs.lemmas.Bool.Decides.{nat_tests}
use Rattle.sd_basics.proofs.Truths.{and_never, and_always}
use Rattle.sd_types.specs.declared.numbers.CpuId.{CpuId}
use Rattle.sd_types.specs.declared.events.Which.{Which}
use Rattle.sd_types.specs.declared.events.Which.TheVariants.{Running as OfRunning, Queued as OfQueued}
use Rattle.sd_types.specs.Priorities.{eff}
use Rattle.sd_state.specs.declared.states.Place.{Place}
use Rattle.sd_state.specs.declared.states.Place.TheVariants.{Running, Queued}
use Rattle.sd_state.specs.declared.states.ThreadState.{ThreadState}
use Rattle.sd_state.specs.declared.states.State.{State}
use Rattle.sd_state.specs.States.{no_thread, is_running, is_queued}
use Rattle.sd_state.specs.Best.{best_by, beats}
use Rattle.sd_state.proofs.BestLemmas.{IsBestBelow, goes_ahead_by, best_taken, best_kept, best_by_is, position_is, position_none}
use Rattle.sd_state.proofs.OrderLemmas.{beats_order}
use Rattle.sd_machine.specs.Threads.{runner, best_unbound, priority_of}
use Rattle.sd_machine.specs.Hints.{hint_of, hint_shown}
use Rattle.sd_flat.specs.Passes.{running_at, unbound_at, shown_at, number_with, taken_at, pass}

-- ---- the number of one processor

-- the thread may be the number of processor d
abbrev on : Which → ℕ → ThreadState → Bool
on OfRunning d x = is_running d x.place
on OfQueued d x = is_queued d x.place && is_none x.body.bound

abbrev is_at : ℕ → Option CpuId → Bool
is_at d None = false
is_at d (Some c) = c.0 == d

running_on : (d : ℕ) (place : Place) → is_at d (running_at place) ≡ is_running d place
running_on d (Running c) = refl
running_on d place = refl

unbound_on : (d : ℕ) (place : Place) (bound : Option CpuId) → is_at d (unbound_at place bound) ≡ (is_queued d place && is_none bound)
unbound_on d (Queued c k) None = sym (and_always (c.0 == d))
unbound_on d (Queued c k) (Some e) = sym (and_never (c.0 == d))
unbound_on d place bound = refl

at_on : (which : Which) (d : ℕ) (x : ThreadState) → is_at d (shown_at which x) ≡ on which d x
at_on OfRunning d x = running_on d x.place
at_on OfQueued d x = unbound_on d x.place x.body.bound

abbrev number : Which → ℕ → List ThreadState → ℕ
number which d [] = 0
number which d (x ∷ xs) = cond (on which d x) (number_with which (eff x.body + 1) (number which d xs)) (number which d xs)

set_at : (which : Which) (n d : ℕ) (c : Option CpuId) (numbers : List ℕ) → d < length numbers
    → get_or (taken_at which n c numbers) d 0 ≡ cond (is_at d c) (number_with which n (get_or numbers d 0)) (get_or numbers d 0)
set_at which n d None numbers inside = refl
set_at which n d (Some c) numbers inside = elim (cases_eq c.0 d) [
  | inl same ↦
      rw (eq-eqb c.0 d same)
      (subst (λ (e : ℕ). get_or (set numbers e (number_with which n (get_or numbers e 0))) d 0 ≡ number_with which n (get_or numbers d 0)) (sym same)
      (get_or-set_same numbers d (number_with which n (get_or numbers d 0)) 0 inside))
  | inr other ↦
      let apart : (c.0 == d) ≡ false = grind (arith, nat_tests) in
      rw apart (get_or-set_other numbers c.0 d (number_with which n (get_or numbers c.0 0)) 0 (λ e. other (sym e)))
]

length-taken : (which : Which) (n : ℕ) (c : Option CpuId) (numbers : List ℕ) → length (taken_at which n c numbers) ≡ length numbers
length-taken which n None numbers = refl
length-taken which n (Some c) numbers = length-set numbers c.0 (number_with which n (get_or numbers c.0 0))

pub length-pass : (which : Which) (xs : List ThreadState) → length (pass which xs) ≡ 64
length-pass which [] = length-replicate {A = ℕ} 64 0
length-pass which (x ∷ xs) = length-taken which (eff x.body + 1) (shown_at which x) (pass which xs) ∙ length-pass which xs

pass_at : (which : Which) (d : ℕ) (xs : List ThreadState) → d < 64 → get_or (pass which xs) d 0 ≡ number which d xs
pass_at which d [] inside = get_or-replicate {A = ℕ} 64 d 0 0 inside
pass_at which d (x ∷ xs) inside =
    let long = length-pass which xs in
    let here = set_at which (eff x.body + 1) d (shown_at which x) (pass which xs) (omega arith) in
    let rest = pass_at which d xs inside in
    here ∙ ap (λ (b : Bool). cond b (number_with which (eff x.body + 1) (get_or (pass which xs) d 0)) (get_or (pass which xs) d 0)) (at_on which d x)
    ∙ ap (λ (n : ℕ). cond (on which d x) (number_with which (eff x.body + 1) n) n) rest

-- ---- what a processor shows

abbrev shown_number : List ThreadState → Option ℕ → ℕ
shown_number xs None = 0
shown_number xs (Some t) = eff (get_or xs t no_thread).body + 1

hint_is : (s : State) (t : Option ℕ) → hint_of (priority_of s t) ≡ shown_number s.threads t
hint_is s None = refl
hint_is s (Some t) = refl

-- nobody stands there
none_there : (which : Which) (d : ℕ) (xs : List ThreadState) → ((k : ℕ) → k < length xs → on which d (get_or xs k no_thread) ≡ false) → number which d xs ≡ 0
none_there which d [] none = refl
none_there which d (x ∷ xs) none = rw (none 0 (omega arith)) (none_there which d xs (λ k l. none (suc k) (omega arith)))

record IsFirst (p : ThreadState → Bool) (xs : List ThreadState) (b : ℕ) : Type 0 where
  inside : b < length xs
  here : p (get_or xs b no_thread) ≡ true
  before : (k : ℕ) → k < b → p (get_or xs k no_thread) ≡ false

abbrev Nowhere : (ThreadState → Bool) → List ThreadState → Type 0
Nowhere p xs = (k : ℕ) → k < length xs → p (get_or xs k no_thread) ≡ false

first : (p : ThreadState → Bool) (xs : List ThreadState) → Nowhere p xs ⊎ ((b : ℕ) × IsFirst p xs b)
first p [] = inl (λ k l. absurd (omega arith))
first p (x ∷ xs) = elim (cases_Bool (p x)) [
  | inl yes_here ↦ inr (0, record { inside = omega arith; here = yes_here; before = λ k l. absurd (omega arith) })
  | inr not_here ↦ elim (first p xs) [
    | inl none ↦ inl (cons_none p x xs not_here none)
    | inr f ↦ inr (suc f.0, record { inside = later f.1.inside; here = f.1.here; before = cons_before p x xs f.0 not_here f.1.before })
  ]
]
  where
    later : {b n : ℕ} → b < n → suc b < suc n
    later h = omega arith

    cons_none : (p : ThreadState → Bool) (x : ThreadState) (xs : List ThreadState) → p x ≡ false → Nowhere p xs → Nowhere p (x ∷ xs)
    cons_none p x xs e none zero l = e
    cons_none p x xs e none (suc k) l = none k (omega arith)

    cons_before : (p : ThreadState → Bool) (x : ThreadState) (xs : List ThreadState) (b : ℕ) → p x ≡ false → ((k : ℕ) → k < b → p (get_or xs k no_thread) ≡ false)
        → (k : ℕ) → k < suc b → p (get_or (x ∷ xs) k no_thread) ≡ false
    cons_before p x xs b e before zero l = e
    cons_before p x xs b e before (suc k) l = before k (omega arith)

first_number : (d : ℕ) (xs : List ThreadState) (b : ℕ) → IsFirst (on OfRunning d) xs b → number OfRunning d xs ≡ eff (get_or xs b no_thread).body + 1
first_number d [] b f = let inside = f.inside in absurd (omega arith)
first_number d (x ∷ xs) zero f = rw f.here refl
first_number d (x ∷ xs) (suc b) f =
    let inside = f.inside in
    rw (f.before 0 (omega arith)) (first_number d xs b (record { inside = omega arith; here = f.here; before = λ k l. f.before (suc k) (omega arith) }))

running_number : (d : ℕ) (xs : List ThreadState) → shown_number xs (position (λ x. is_running d x.place) xs) ≡ number OfRunning d xs
running_number d xs = elim (first (on OfRunning d) xs) [
  | inl none ↦ ap (shown_number xs) (position_none (on OfRunning d) xs no_thread none) ∙ sym (none_there OfRunning d xs none)
  | inr f ↦ ap (shown_number xs) (position_is (on OfRunning d) xs f.0 no_thread f.1.inside f.1.here f.1.before) ∙ sym (first_number d xs f.0 f.1)
]

-- of those on the queue the best has the greatest priority
at_most : (d m : ℕ) (xs : List ThreadState) → ((k : ℕ) → k < length xs → on OfQueued d (get_or xs k no_thread) ≡ true → eff (get_or xs k no_thread).body + 1 ≤ m)
    → number OfQueued d xs ≤ m
at_most d m [] each = omega arith
at_most d m (x ∷ xs) each =
    let rest = at_most d m xs (λ k l. each (suc k) (omega arith)) in
    elim (cases_Bool (on OfQueued d x)) [
      | inl here ↦ let first_one : eff x.body + 1 ≤ m = each 0 (omega arith) here in rw here (omega arith)
      | inr away ↦ rw away rest
    ]

at_least : (d : ℕ) (xs : List ThreadState) (k : ℕ) → k < length xs → on OfQueued d (get_or xs k no_thread) ≡ true → eff (get_or xs k no_thread).body + 1 ≤ number OfQueued d xs
at_least d [] k inside here = absurd (omega arith)
at_least d (x ∷ xs) zero inside here = rw here (omega arith)
at_least d (x ∷ xs) (suc k) inside here =
    let rest = at_least d xs k (omega arith) here in
    elim (cases_Bool (on OfQueued d x)) [ inl also ↦ rw also (omega arith) | inr away ↦ rw away rest ]

not_better : (x y : ThreadState) → beats x y ≡ false → eff x.body ≤ eff y.body
not_better x y e = by (eff y.body) (eff x.body) _ e
  where
    by : (q p : ℕ) (rest : Bool) → (nat_lt q p || rest) ≡ false → p ≤ q
    by q p rest h = grind (arith, nat_tests)

scan : (p : ThreadState → Bool) (xs : List ThreadState) (n : ℕ) → (o : Option ℕ) × IsBestBelow p beats no_thread xs n o
scan p xs zero = (None, λ k l. absurd (omega arith))
scan p xs (suc n) =
    let before = scan p xs n in
    let more : n + 1 ≡ suc n = omega arith in
    elim (cases_Bool (goes_ahead_by p beats no_thread xs before.0 n)) [
      | inl ahead ↦ (Some n, subst (λ (m : ℕ). IsBestBelow p beats no_thread xs m (Some n)) more (best_taken p beats no_thread beats_order xs before.0 n before.1 ahead))
      | inr behind ↦ (before.0, subst (λ (m : ℕ). IsBestBelow p beats no_thread xs m before.0) more (best_kept p beats no_thread xs before.0 n before.1 behind))
    ]

best_number : (d : ℕ) (xs : List ThreadState) (o : Option ℕ) → IsBestBelow (on OfQueued d) beats no_thread xs (length xs) o → shown_number xs o ≡ number OfQueued d xs
best_number d xs None none = sym (none_there OfQueued d xs none)
best_number d xs (Some b) best =
    let low = at_least d xs b best.inside best.candidate in
    let high = at_most d (eff (get_or xs b no_thread).body + 1) xs
    (λ k l here. let less = not_better (get_or xs k no_thread) (get_or xs b no_thread) (best.unbeaten k l here) in omega arith) in
    omega arith

queued_number : (d : ℕ) (xs : List ThreadState) → shown_number xs (best_by (λ x. is_queued d x.place && is_none x.body.bound) beats xs) ≡ number OfQueued d xs
queued_number d xs =
    let found = scan (on OfQueued d) xs (length xs) in
    ap (shown_number xs) (sym (best_by_is (on OfQueued d) beats no_thread xs found.0 found.1)) ∙ best_number d xs found.0 found.1

number_shown : (s : State) (which : Which) (c : CpuId) → number which c.0 s.threads ≡ hint_shown s which c
unfolding hint_shown runner best_unbound
number_shown s OfRunning c = sym (hint_is s (position (λ x. is_running c.0 x.place) s.threads) ∙ running_number c.0 s.threads)
number_shown s OfQueued c = sym (hint_is s (best_by (λ x. is_queued c.0 x.place && is_none x.body.bound) beats s.threads) ∙ queued_number c.0 s.threads)

pub pass_shows : (s : State) (which : Which) (c : CpuId) → c.0 < 64 → get_or (pass which s.threads) c.0 0 ≡ hint_shown s which c
pass_shows s which c inside = pass_at which c.0 s.threads inside ∙ number_shown s which c
