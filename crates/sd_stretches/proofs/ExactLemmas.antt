-- The stretches of a thread are exact.
use Rattle.std.proofs.Common.{◌≡◌, ℕ, zero, suc, ◌+◌, ◌-◌, ◌<◌, ◌≤◌, Bool, true, false, inl, inr, List, [], ◌∷◌, ◌++◌, length, take, Option, Some, None, refl, sym, ap, subst, ◌∙◌, arith, add-one}
use Rattle.std.specs.Prelude.{◌≢◌, ◌==◌, nat_lt, if◌then◌else◌, filter, slice_get, option_map}
use Rattle.std.specs.List.{flat_map, range_with_len}
use Rattle.std.proofs.lemmas.Bool.{false≢true, cases_Bool}
use Rattle.std.proofs.lemmas.Bool.Decides.{nat_tests}
use Rattle.std.proofs.lemmas.List.{append-nil, length-map}
use Rattle.std.proofs.lemmas.List.Elements.{filter-append}
use Rattle.std.proofs.lemmas.Option.{slice_get-map, slice_get-get_or}
use Rattle.sd_basics.proofs.Ranges.{flat_range_same}
use Rattle.sd_types.specs.declared.events.Entry.{Entry}
use Rattle.sd_types.specs.declared.works.Work.{Work}
use Rattle.sd_state.specs.Opening.{opening}
use Rattle.sd_state.specs.States.{thread_of, no_thread}
use Rattle.sd_machine.specs.Runs.{state_at}
use Rattle.sd_machine.proofs.OpeningLemmas.{opening_fits}
use Rattle.sd_machine.proofs.RunLemmas.{final_fits}
use Rattle.sd_stretches.specs.declared.sights.Doing.{Doing}
use Rattle.sd_stretches.specs.declared.sights.Doing.TheVariants.{Running, Spinning, Runnable, Waiting, Asleep, Napping, Ended}
use Rattle.sd_stretches.specs.declared.sights.Sight.{Sight}
use Rattle.sd_stretches.specs.declared.changes.Onset.{Onset}
use Rattle.sd_stretches.specs.Sights.{same_doing, sight_of, sights_of}
use Rattle.sd_stretches.specs.Changes.{onset_from, onset_if, onsets_between}
use Rattle.sd_stretches.specs.Histories.{moment, sights_before, entry_before, tick_by, over, onsets_in}
use Rattle.sd_stretches.specs.Rows.{own_onsets, stretch_to, next_of, stretches_of, stretches}
use Rattle.sd_stretches.specs.Exact.{doing_at, AreExact, StretchesAreExact}

pub same_is : (x y : Doing) → same_doing x y ≡ true → x ≡ y
same_is (Running c) (Running d) h = let e : c.0 ≡ d.0 = grind (arith, nat_tests) in ap (λ n. Running (record { 0 = n })) e
same_is (Spinning c l) (Spinning d m) h =
    let e : c.0 ≡ d.0 = grind (arith, nat_tests) in
    let f : l.0 ≡ m.0 = grind (arith, nat_tests) in
    ap (λ n. Spinning (record { 0 = n }) l) e ∙ ap (λ n. Spinning d (record { 0 = n })) f
same_is Runnable Runnable h = refl
same_is (Waiting l) (Waiting m) h = let e : l.0 ≡ m.0 = grind (arith, nat_tests) in ap (λ n. Waiting (record { 0 = n })) e
same_is (Asleep k) (Asleep j) h = let e : k.0 ≡ j.0 = grind (arith, nat_tests) in ap (λ n. Asleep (record { 0 = n })) e
same_is Napping Napping h = refl
same_is Ended Ended h = refl
same_is x y h = cc

pub same_self : (x : Doing) → same_doing x x ≡ true
same_self (Running c) = grind (arith, nat_tests)
same_self (Spinning c l) = grind (arith, nat_tests)
same_self Runnable = refl
same_self (Waiting l) = grind (arith, nat_tests)
same_self (Asleep k) = grind (arith, nat_tests)
same_self Napping = refl
same_self Ended = refl

differ : (x y : Doing) → same_doing x y ≡ false → x ≢ y
differ x y other same = false≢true (sym other ∙ ap (same_doing x) (sym same) ∙ same_self x)

pub stretch_doing : (n end : ℕ) (x : Onset) (next : Option Onset) → (stretch_to n end x next).doing ≡ x.doing
stretch_doing n end x None = refl
stretch_doing n end x (Some y) = refl

-- The onsets of one thread, of which a sight is given for each state.
module _ (g : ℕ → Sight) (t : ℕ) (ticks : ℕ → ℕ) where
  before : ℕ → Option Sight
  before zero = None
  before (suc k) = Some (g k)

  onset_at : ℕ → List Onset
  onset_at k = onset_if t k (ticks k) (before k) (Some (g k))

  AllSame : ℕ → ℕ → Onset → Type 0
  AllSame k a x = (j : ℕ) → k ≤ j → j < a → (g j).doing ≡ x.doing

  all_on : (a k : ℕ) (x : Onset) → k ≤ a → AllSame k (suc a) x → (g (suc a)).doing ≡ (g a).doing → AllSame k (suc (suc a)) x
  unfolding AllSame
  all_on a k x within same stays j from to = elim (cases_Bool (nat_lt j (suc a))) [
    | inl less ↦ same j from (grind (arith, nat_tests))
    | inr not ↦
        let is : j ≡ suc a = grind (arith, nat_tests) in
        ap (λ i. (g i).doing) is ∙ stays ∙ same a within (omega arith)
  ]

  here : (b : ℕ) → AllSame b (suc b) (onset_from t b (ticks b) (g b))
  unfolding AllSame
  here b j from to = let is : j ≡ b = omega arith in ap (λ i. (g i).doing) is

  exact_on : (n end m : ℕ) (a k : ℕ) (x : Onset) → suc a + m ≡ n + 1 → k ≤ a → x.first ≡ k → AllSame k (suc a) x
      → AreExact (λ j. (g j).doing) n k (stretches_of n end (x ∷ flat_map onset_at (range_with_len (suc a) m)))
  unfolding stretches_of before onset_at AllSame
  exact_on n end zero a k x many within first same =
      (first, refl, omega arith, λ j from to. same j from (omega arith))
  exact_on n end (suc m) a k x many within first same = elim (cases_Bool (same_doing (g a).doing (g (suc a)).doing)) [
    | inl stays ↦
        let P : List Onset → Type 0 = λ ys. AreExact (λ j. (g j).doing) n k (stretches_of n end (x ∷ ys)) in
        let rest : ℕ → List Onset = λ b. flat_map onset_at (range_with_len b m) in
        let none : flat_map onset_at (range_with_len (suc a) (suc m)) ≡ rest (suc (suc a))
        = ap (λ b. (if b then [] else (onset_from t (suc a) (ticks (suc a)) (g (suc a)) ∷ [])) ++ rest (suc a + 1)) stays ∙ ap rest (add-one (suc a)) in
        subst P (sym none) (exact_on n end m (suc a) k x (omega (arith, many)) (omega (arith, within)) first
        (all_on a k x within same (sym (same_is (g a).doing (g (suc a)).doing stays))))
    | inr other ↦
        let P : List Onset → Type 0 = λ ys. AreExact (λ j. (g j).doing) n k (stretches_of n end (x ∷ ys)) in
        let rest : ℕ → List Onset = λ b. flat_map onset_at (range_with_len b m) in
        let y : Onset = onset_from t (suc a) (ticks (suc a)) (g (suc a)) in
        let one : flat_map onset_at (range_with_len (suc a) (suc m)) ≡ y ∷ rest (suc (suc a))
        = ap (λ b. (if b then [] else (onset_from t (suc a) (ticks (suc a)) (g (suc a)) ∷ [])) ++ rest (suc a + 1)) other ∙ ap (λ b. y ∷ rest b) (add-one (suc a)) in
        let last : suc a - 1 ≡ a = omega arith in
        let from : suc a - 1 + 1 ≡ suc a = omega arith in
        let Q : ℕ → Type 0 = λ b. AreExact (λ j. (g j).doing) n b (stretches_of n end (y ∷ rest (suc (suc a)))) in
        let doing : (g a).doing ≡ x.doing = same a within (omega arith) in
        subst P (sym one) (
          first,
          omega (arith, last, within),
          (λ j from to. same j from (omega (arith, to, last))),
          (λ is. differ (g a).doing (g (suc a)).doing other (doing ∙ is ∙ stretch_doing n end y (next_of (rest (suc (suc a)))))),
          subst Q (sym from) (exact_on n end m (suc a) (suc a) y (omega (arith, many)) (omega arith) refl (here (suc a))),
        )
  ]

  -- from the first state on
  exact_from : (n end : ℕ) → AreExact (λ j. (g j).doing) n 0 (stretches_of n end (flat_map onset_at (range_with_len 0 (n + 1))))
  unfolding onset_at before
  exact_from n end =
      let P : ℕ → Type 0 = λ m. AreExact (λ j. (g j).doing) n 0 (stretches_of n end (flat_map onset_at (range_with_len 0 m))) in
      subst P (sym (add-one n)) (exact_on n end n 0 0 (onset_from t 0 (ticks 0) (g 0)) (omega arith) (omega arith) refl (here 0))

-- The onsets of one thread among those of all.

pub filter_flat : {A B : Type 0} (p : B → Bool) (f : A → List B) (xs : List A) → filter p (flat_map f xs) ≡ flat_map (λ x. filter p (f x)) xs
filter_flat p f [] = refl
filter_flat p f (x ∷ xs) = filter-append p (f x) (flat_map f xs) ∙ ap (λ ys. filter p (f x) ++ ys) (filter_flat p f xs)

-- where a function of a range gives nothing but at one number
none_but : {A : Type 0} (f : ℕ → List A) (t a n : ℕ) → ((u : ℕ) → u ≢ t → f u ≡ []) → t < a → flat_map f (range_with_len a n) ≡ []
none_but f t a zero none past = refl
none_but f t a (suc n) none past =
    let other : a ≢ t = λ is. (omega (arith, is, past)) in
    ap (λ ys. ys ++ flat_map f (range_with_len (a + 1) n)) (none a other) ∙ none_but f t (a + 1) n none (omega arith)

pub one_of : {A : Type 0} (f : ℕ → List A) (t a n : ℕ) → ((u : ℕ) → u ≢ t → f u ≡ []) → a ≤ t → t < a + n → flat_map f (range_with_len a n) ≡ f t
one_of f t a zero none from to = absurd (omega (arith, from, to))
one_of {A} f t a (suc n) none from to = elim (cases_Bool (a == t)) [
  | inl is ↦
      let same : a ≡ t = grind (arith, nat_tests) in
      ap (λ ys. f a ++ ys) (none_but f t (a + 1) n none (omega (arith, same))) ∙ append-nil (f a) ∙ ap f same
  | inr not ↦
      let other : a ≢ t = λ same. grind (arith, nat_tests) in
      ap (λ ys. ys ++ flat_map f (range_with_len (a + 1) n)) (none a other) ∙ one_of f t (a + 1) n none (grind (arith, nat_tests)) (omega (arith, to))
]

own_none : (t : ℕ) (x : Onset) → x.thread == t ≡ false → own_onsets t (x ∷ []) ≡ []
own_none t x other = rw other refl

own_one : (t : ℕ) (x : Onset) → x.thread == t ≡ true → own_onsets t (x ∷ []) ≡ x ∷ []
own_one t x own = rw own refl

pub own_if : (t u first tick : ℕ) (old new : Option Sight) → u == t ≡ false → own_onsets t (onset_if u first tick old new) ≡ []
own_if t u first tick old None other = refl
own_if t u first tick None (Some x) other = own_none t (onset_from u first tick x) other
own_if t u first tick (Some y) (Some x) other = elim (cases_Bool (same_doing y.doing x.doing)) [
  | inl same ↦ rw same refl
  | inr differs ↦ rw differs (own_none t (onset_from u first tick x) other)
]

pub own_if_own : (t first tick : ℕ) (old new : Option Sight) → t == t ≡ true → own_onsets t (onset_if t first tick old new) ≡ onset_if t first tick old new
own_if_own t first tick old None own = refl
own_if_own t first tick None (Some x) own = own_one t (onset_from t first tick x) own
own_if_own t first tick (Some y) (Some x) own = elim (cases_Bool (same_doing y.doing x.doing)) [
  | inl same ↦ rw same refl
  | inr differs ↦ rw differs (own_one t (onset_from t first tick x) own)
]

pub own_between : (t first tick : ℕ) (old new : List Sight) → t < length new
    → own_onsets t (onsets_between old new first tick) ≡ onset_if t first tick (slice_get old t) (slice_get new t)
unfolding onsets_between
own_between t first tick old new inside =
    filter_flat (λ (x : Onset). x.thread == t) (λ u. onset_if u first tick (slice_get old u) (slice_get new u)) (range_with_len 0 (length new))
    ∙ one_of (λ u. own_onsets t (onset_if u first tick (slice_get old u) (slice_get new u))) t 0 (length new)
    (λ u other. own_if t u first tick (slice_get old u) (slice_get new u) (grind (arith, nat_tests, other))) (omega arith) (omega (arith, inside))
    ∙ own_if_own t first tick (slice_get old t) (slice_get new t) (grind (arith, nat_tests))

module _ (w : Work) (es : List Entry) (t : ℕ) (here : t < length w.threads) where
  pub sight_at : ℕ → Sight
  sight_at k = sight_of (thread_of (state_at w es k) t)

  pub tick_at : ℕ → ℕ
  tick_at k = tick_by (state_at w es k) (entry_before es k)

  pub there : (k : ℕ) → t < length (state_at w es k).threads
  there k = let fits = final_fits w (opening w) (take k es) (opening_fits w) in let many = fits.threads in omega (arith, many, here)

  pub seen : (k : ℕ) → slice_get (sights_of (state_at w es k)) t ≡ Some (sight_at k)
  unfolding sights_of sight_at
  seen k = slice_get-map sight_of (state_at w es k).threads t ∙ ap (option_map sight_of) (slice_get-get_or (state_at w es k).threads t no_thread (there k))

  pub seen_inside : (k : ℕ) → t < length (sights_of (state_at w es k))
  unfolding sights_of
  seen_inside k = let many = length-map (state_at w es k).threads sight_of in let inside = there k in omega (arith, many, inside)

  seen_before : (k : ℕ) → slice_get (sights_before w es k) t ≡ before sight_at t tick_at k
  unfolding before
  seen_before zero = refl
  seen_before (suc k) = seen k

  own_at : (k : ℕ) → own_onsets t (onsets_in (moment w es k)) ≡ onset_at sight_at t tick_at k
  unfolding moment onset_at tick_at
  own_at k =
      own_between t k (tick_at k) (sights_before w es k) (sights_of (state_at w es k)) (seen_inside k)
      ∙ ap (λ o. onset_if t k (tick_at k) o (slice_get (sights_of (state_at w es k)) t)) (seen_before k)
      ∙ ap (λ o. onset_if t k (tick_at k) (before sight_at t tick_at k) o) (seen k)

  own_over : own_onsets t (over onsets_in w es) ≡ flat_map (onset_at sight_at t tick_at) (range_with_len 0 (length es + 1))
  unfolding over
  own_over =
      filter_flat (λ (x : Onset). x.thread == t) (λ k. onsets_in (moment w es k)) (range_with_len 0 (length es + 1))
      ∙ flat_range_same (λ k. own_onsets t (onsets_in (moment w es k))) (onset_at sight_at t tick_at) 0 (length es + 1) (λ k inside. own_at k)

pub are_exact : StretchesAreExact
unfolding stretches sight_at
are_exact w es t end here =
    let P : List Onset → Type 0 = λ xs. AreExact (doing_at w es t) (length es) 0 (stretches_of (length es) end xs) in
    subst P (sym (own_over w es t here)) (exact_from (sight_at w es t here) t (tick_at w es t here) (length es) end)

-- the first onset of a thread is that of the initial state, at tick 0
pub begins_at_0 : (w : Work) (es : List Entry) (t : ℕ) → t < length w.threads
    → (x : Onset) × (xs : List Onset) × (own_onsets t (over onsets_in w es) ≡ x ∷ xs) × (x.tick ≡ 0)
unfolding onset_at before tick_at
begins_at_0 w es t here =
    let g : ℕ → Sight = sight_at w es t here in
    let ticks : ℕ → ℕ = tick_at w es t here in (
      onset_from t 0 (ticks 0) (g 0),
      flat_map (onset_at g t ticks) (range_with_len 1 (length es)),
      own_over w es t here ∙ ap (λ n. flat_map (onset_at g t ticks) (range_with_len 0 n)) (add-one (length es)),
      refl,
    )
