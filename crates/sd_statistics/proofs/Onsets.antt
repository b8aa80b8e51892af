-- The slices of one processor, where each state shows what each thread does: of lists alone.
use Rattle.std.proofs.Common.{◌≡◌, ◌≢◌, ℕ, zero, suc, ◌+◌, ◌<◌, ◌≤◌, ◌⊎◌, Bool, true, false, inl, inr, List, [], ◌∷◌, ◌++◌, Option, Some, None, refl, sym, ap, subst, ◌∙◌, add-one, arith}
use Rattle.std.specs.Prelude.{⊤, ◌==◌, if◌then◌else◌}
use Rattle.std.specs.List.{flat_map, range_with_len}
use Rattle.std.proofs.lemmas.Bool.{false≢true, cases_Bool}
use Rattle.std.proofs.lemmas.Bool.Decides.{nat_tests}
use Rattle.std.proofs.lemmas.List.Elements.{filter-append}
use Rattle.sd_stretches.specs.declared.sights.Doing.{Doing}
use Rattle.sd_stretches.specs.declared.sights.Doing.TheVariants.{Running, Spinning, Runnable, Waiting, Asleep, Napping, Ended}
use Rattle.sd_stretches.specs.declared.sights.Sight.{Sight}
use Rattle.sd_stretches.specs.declared.changes.Onset.{Onset}
use Rattle.sd_stretches.specs.declared.rows.Stretch.{Stretch}
use Rattle.sd_stretches.specs.Sights.{runs_on, same_doing}
use Rattle.sd_stretches.specs.Changes.{onset_from, onset_if}
use Rattle.sd_stretches.specs.Rows.{all_stretches, next_of, own_onsets, slices, stretch_to}
use Rattle.sd_stretches.proofs.ExactLemmas.{same_is, filter_flat, one_of, own_if, own_if_own}
use Rattle.sd_stretches.proofs.OrderLemmas.{to_first}
use Rattle.sd_stretches.proofs.SliceLemmas.{slices_cons}
use Rattle.sd_statistics.specs.Follow.{FollowInTime}

-- no slice ends with this: it begins with this entry or later, and at this tick or later
abbrev pub BeginsFrom : ℕ → ℕ → List Stretch → Type 0
BeginsFrom first from [] = ⊤
BeginsFrom first from (x ∷ xs) = (first ≤ x.first) × (from ≤ x.from)

begins_later : (first later from after : ℕ) (xs : List Stretch) → first ≤ later → from ≤ after → BeginsFrom later after xs → BeginsFrom first from xs
begins_later first later from after [] a b begins = tt
begins_later first later from after (x ∷ xs) a b (c, d) = (omega (arith, a, c), omega (arith, b, d))

-- what a thread that runs does next ends its slice: it comes with this entry or later, at this tick or later, and no slice
-- begins before it; where it does nothing else, no slice begins at all
abbrev pub EndsFrom : ℕ → ℕ → List Stretch → Option Onset → Type 0
EndsFrom first from xs None = xs ≡ []
EndsFrom first from xs (Some y) = (first ≤ y.first) × (from ≤ y.tick) × BeginsFrom y.first y.tick xs

ends_later : (first later from after : ℕ) (xs : List Stretch) (next : Option Onset) → first ≤ later → from ≤ after → EndsFrom later after xs next → EndsFrom first from xs next
ends_later first later from after xs None a b ends = ends
ends_later first later from after xs (Some y) a b (c, d, rest) = (omega (arith, a, c), omega (arith, b, d), rest)

both_run : (c : ℕ) (x y : Doing) → runs_on c x ≡ true → runs_on c y ≡ true → same_doing x y ≡ true
both_run c (Running d) (Running e) a b = grind (arith, nat_tests)
both_run c (Running d) (Spinning e l) a b = cc
both_run c (Running d) Runnable a b = cc
both_run c (Running d) (Waiting l) a b = cc
both_run c (Running d) (Asleep k) a b = cc
both_run c (Running d) Napping a b = cc
both_run c (Running d) Ended a b = cc
both_run c (Spinning d l) y a b = cc
both_run c Runnable y a b = cc
both_run c (Waiting l) y a b = cc
both_run c (Asleep k) y a b = cc
both_run c Napping y a b = cc
both_run c Ended y a b = cc

from_onset : (n end : ℕ) (y : Onset) (next : Option Onset) → (stretch_to n end y next).from ≡ y.tick
from_onset n end y None = refl
from_onset n end y (Some z) = refl

-- the slice that begins with an onset, in front of those that begin behind it
follow_cons : (n end : ℕ) (y : Onset) (xs : List Stretch) (next : Option Onset) → y.tick ≤ end → EndsFrom (suc y.first) y.tick xs next → FollowInTime xs
    → FollowInTime (stretch_to n end y next ∷ xs)
follow_cons n end y xs None within ends follow = subst (λ zs. FollowInTime (stretch_to n end y None ∷ zs)) (sym ends) within
follow_cons n end y [] (Some z) within (first, from, begins) follow = from
follow_cons n end y (x ∷ xs) (Some z) within (first, from, (later, after)) follow = (from, omega (arith, first, later), after, follow)

-- Rows of onsets.

module _ (c n end : ℕ) where
  abbrev pub slices_of : List Onset → List Stretch
  slices_of xs = slices c xs n end

  slices_nil : slices_of [] ≡ []
  unfolding slices all_stretches
  slices_nil = refl

  -- an onset that does not run on the processor begins no slice
  slices_past : (x : Onset) (xs : List Onset) → runs_on c x.doing ≡ false → slices_of (x ∷ xs) ≡ slices_of xs
  slices_past x xs off = slices_cons c n end x xs ∙ ap (λ b. (if b then stretch_to n end x (next_of (own_onsets x.thread xs)) ∷ [] else []) ++ slices c xs n end) off

  slices_at : (x : Onset) (xs : List Onset) → runs_on c x.doing ≡ true → slices_of (x ∷ xs) ≡ stretch_to n end x (next_of (own_onsets x.thread xs)) ∷ slices_of xs
  slices_at x xs on = slices_cons c n end x xs ∙ ap (λ b. (if b then stretch_to n end x (next_of (own_onsets x.thread xs)) ∷ [] else []) ++ slices c xs n end) on

  -- none of the onsets runs on the processor
  NoneRuns : List Onset → Type 0
  NoneRuns [] = ⊤
  NoneRuns (x ∷ xs) = (runs_on c x.doing ≡ false) × NoneRuns xs

  slices_behind : (xs ys : List Onset) → NoneRuns xs → slices_of (xs ++ ys) ≡ slices_of ys
  unfolding NoneRuns
  slices_behind [] ys none = refl
  slices_behind (x ∷ xs) ys (off, none) = slices_past x (xs ++ ys) off ∙ slices_behind xs ys none

  -- Each state shows what each of m threads does, k is the number of a state, and ticks k the tick of its entry.
  module _ (g : ℕ → ℕ → Sight) (m : ℕ) (ticks : ℕ → ℕ) where
    abbrev pub runs : ℕ → ℕ → Bool
    runs k t = runs_on c (g k t).doing

    -- what thread t does from a state on
    unfoldable pub onset_in : ℕ → ℕ → List Onset
    onset_in zero t = onset_if t zero (ticks zero) None (Some (g zero t))
    onset_in (suc k) t = onset_if t (suc k) (ticks (suc k)) (Some (g k t)) (Some (g (suc k) t))

    begin : ℕ → ℕ → Onset
    begin k t = onset_from t k (ticks k) (g k t)

    onset_cases : (k t : ℕ) → ((onset_in (suc k) t ≡ []) × (runs (suc k) t ≡ runs k t)) ⊎ (onset_in (suc k) t ≡ begin (suc k) t ∷ [])
    unfolding onset_in begin
    onset_cases k t = elim (cases_Bool (same_doing (g k t).doing (g (suc k) t).doing)) [
      | inl same ↦ inl (rw same refl, ap (runs_on c) (sym (same_is (g k t).doing (g (suc k) t).doing same)))
      | inr other ↦ inr (rw other refl)
    ]

    -- where it runs on the processor and did so before, it does nothing new
    onset_none : (k t : ℕ) → runs k t ≡ true → runs (suc k) t ≡ true → onset_in (suc k) t ≡ []
    unfolding onset_in
    onset_none k t was is = rw (both_run c (g k t).doing (g (suc k) t).doing was is) refl

    onsets_from : ℕ → ℕ → ℕ → List Onset
    onsets_from k a j = flat_map (onset_in k) (range_with_len a j)

    unfoldable pub row : ℕ → List Onset
    row k = flat_map (onset_in k) (range_with_len 0 m)

    own_other : (k t u : ℕ) → u ≢ t → own_onsets t (onset_in k u) ≡ []
    unfolding onset_in
    own_other zero t u other = own_if t u zero (ticks zero) None (Some (g zero u)) (grind (arith, nat_tests, other))
    own_other (suc k) t u other = own_if t u (suc k) (ticks (suc k)) (Some (g k u)) (Some (g (suc k) u)) (grind (arith, nat_tests, other))

    own_same : (k t : ℕ) → own_onsets t (onset_in k t) ≡ onset_in k t
    unfolding onset_in
    own_same zero t = own_if_own t zero (ticks zero) None (Some (g zero t)) (grind (arith, nat_tests))
    own_same (suc k) t = own_if_own t (suc k) (ticks (suc k)) (Some (g k t)) (Some (g (suc k) t)) (grind (arith, nat_tests))

    own_row : (k t : ℕ) → t < m → own_onsets t (row k) ≡ onset_in k t
    unfolding row
    own_row k t inside =
        filter_flat (λ (x : Onset). x.thread == t) (onset_in k) (range_with_len 0 m)
        ∙ one_of (λ u. own_onsets t (onset_in k u)) t 0 m (λ u other. own_other k t u other) (omega arith) (omega (arith, inside))
        ∙ own_same k t

    own_past : (k t a j : ℕ) → t < a → own_onsets t (onsets_from k a j) ≡ []
    unfolding onsets_from
    own_past k t a zero past = refl
    own_past k t a (suc j) past =
        let other : a ≢ t = λ is. omega (arith, is, past) in
        filter-append (λ (x : Onset). x.thread == t) (onset_in k a) (onsets_from k (a + 1) j)
        ∙ ap (λ xs. xs ++ own_onsets t (onsets_from k (a + 1) j)) (own_other k t a other)
        ∙ own_past k t (a + 1) j (omega (arith, past))

    -- at most one thread runs on the processor
    abbrev pub OneRuns : ℕ → Type 0
    OneRuns k = (t u : ℕ) → t < m → u < m → runs k t ≡ true → runs k u ≡ true → t ≡ u

    others_none : (k t : ℕ) → OneRuns (suc k) → t < m → runs (suc k) t ≡ true → (a j : ℕ) → t < a → a + j ≡ m → NoneRuns (onsets_from (suc k) a j)
    unfolding onsets_from NoneRuns begin
    others_none k t one inside on a zero past all = tt
    others_none k t one inside on a (suc j) past all =
        let rest = others_none k t one inside on (a + 1) j (omega (arith, past)) (omega (arith, all)) in
        elim (onset_cases k a) [
          | inl (none, same) ↦ subst (λ xs. NoneRuns (xs ++ onsets_from (suc k) (a + 1) j)) (sym none) rest
          | inr is ↦
              let off : runs (suc k) a ≡ false = elim (cases_Bool (runs (suc k) a)) [
                | inl also ↦ let same = one t a inside (omega (arith, all)) on also in absurd (omega (arith, same, past))
                | inr off ↦ off
              ] in
              subst (λ xs. NoneRuns (xs ++ onsets_from (suc k) (a + 1) j)) (sym is) (off, rest)
        ]

    -- the thread begins to run on the processor, by one of these onsets
    record Begins (k : ℕ) (xs : List Onset) : Type 0 where
      who : ℕ
      inside : who < m
      was : runs k who ≡ false
      on : runs (suc k) who ≡ true
      is : (ys : List Onset) → slices_of (xs ++ ys) ≡ stretch_to n end (begin (suc k) who) (next_of (own_onsets who ys)) ∷ slices_of ys

    -- none of these onsets begins a slice, or one does
    abbrev RowCases : ℕ → List Onset → Type 0
    RowCases k xs = ((ys : List Onset) → slices_of (xs ++ ys) ≡ slices_of ys) ⊎ Begins k xs

    past_onset : (k t : ℕ) (rest : List Onset) → runs (suc k) t ≡ false → RowCases k rest → RowCases k (begin (suc k) t ∷ rest)
    unfolding begin
    past_onset k t rest off (inl none) = inl (λ ys. slices_past (begin (suc k) t) (rest ++ ys) off ∙ none ys)
    past_onset k t rest off (inr b) = inr (record {
      who = b.who;
      inside = b.inside;
      was = b.was;
      on = b.on;
      is = λ ys. slices_past (begin (suc k) t) (rest ++ ys) off ∙ b.is ys;
    })

    begun : (k a j : ℕ) → OneRuns (suc k) → a + suc j ≡ m → runs k a ≡ false → runs (suc k) a ≡ true → Begins k (begin (suc k) a ∷ onsets_from (suc k) (a + 1) j)
    unfolding begin
    begun k a j one all was on = record {
      who = a;
      inside = omega (arith, all);
      was = was;
      on = on;
      is = λ ys.
          let rest = onsets_from (suc k) (a + 1) j in
          let x = begin (suc k) a in
          slices_at x (rest ++ ys) on
          ∙ ap (λ own. stretch_to n end x (next_of own) ∷ slices_of (rest ++ ys))
          (filter-append (λ (x : Onset). x.thread == a) rest ys ∙ ap (λ own. own ++ own_onsets a ys) (own_past (suc k) a (a + 1) j (omega arith)))
          ∙ ap (λ xs. stretch_to n end x (next_of (own_onsets a ys)) ∷ xs)
          (slices_behind rest ys (others_none k a one (omega (arith, all)) on (a + 1) j (omega arith) (omega (arith, all))));
    }

    cases_from : (k : ℕ) → OneRuns (suc k) → (a j : ℕ) → a + j ≡ m → RowCases k (onsets_from (suc k) a j)
    unfolding onsets_from
    cases_from k one a zero all = inl (λ ys. refl)
    cases_from k one a (suc j) all =
        let rest = cases_from k one (a + 1) j (omega (arith, all)) in
        elim (onset_cases k a) [
          | inl (none, same) ↦ subst (λ xs. RowCases k (xs ++ onsets_from (suc k) (a + 1) j)) (sym none) rest
          | inr is ↦ subst (λ xs. RowCases k (xs ++ onsets_from (suc k) (a + 1) j)) (sym is) (elim (cases_Bool (runs (suc k) a)) [
            | inl on ↦ elim (cases_Bool (runs k a)) [
              | inl was ↦ let none : [] ≡ begin (suc k) a ∷ [] = sym (onset_none k a was on) ∙ is in cc
              | inr fresh ↦ inr (begun k a j one all fresh on)
            ]
            | inr off ↦ past_onset k a (onsets_from (suc k) (a + 1) j) off rest
          ])
        ]

    row_cases : (k : ℕ) → OneRuns (suc k) → RowCases k (row (suc k))
    unfolding row onsets_from
    row_cases k one = cases_from k one 0 m (omega arith)

    -- Rows of onsets, state after state.
    module _ (count : ℕ → ℕ) where
      -- a thread that begins or ceases to run on the processor does so by an entry of the processor
      abbrev pub MadeHere : ℕ → Type 0
      MadeHere k = (t : ℕ) → t < m → (runs k t ≡ runs (suc k) t) ⊎ (ticks (suc k) ≡ count (suc k))

      abbrev pub rest : ℕ → ℕ → List Onset
      rest k j = flat_map row (range_with_len k j)

      -- of the onsets behind state a: slices follow one another, all begin behind it, and those of who runs in it end behind it
      record Holds (a : ℕ) (xs : List Onset) : Type 0 where
        follow : FollowInTime (slices_of xs)
        begins : BeginsFrom (suc a) (count a) (slices_of xs)
        ends : (t : ℕ) → t < m → runs a t ≡ true → EndsFrom (suc a) (count a) (slices_of xs) (next_of (own_onsets t xs))

      none_holds : (a : ℕ) → Holds a []
      none_holds a = record {
        follow = subst FollowInTime (sym slices_nil) tt;
        begins = subst (BeginsFrom (suc a) (count a)) (sym slices_nil) tt;
        ends = λ t inside on. slices_nil;
      }

      own_rest : (k t : ℕ) (xs : List Onset) → t < m → own_onsets t (row k ++ xs) ≡ onset_in k t ++ own_onsets t xs
      own_rest k t xs inside = filter-append (λ (x : Onset). x.thread == t) (row k) xs ∙ ap (λ ys. ys ++ own_onsets t xs) (own_row k t inside)

      -- who ceases to run on the processor
      stopped : (a t : ℕ) (xs : List Onset) (found : List Stretch) → t < m → MadeHere a → count a ≤ count (suc a) → runs a t ≡ true → runs (suc a) t ≡ false
          → BeginsFrom (suc a) (count (suc a)) found → EndsFrom (suc a) (count a) found (next_of (own_onsets t (row (suc a) ++ xs)))
      unfolding begin
      stopped a t xs found inside made more was off begins =
          let here : ticks (suc a) ≡ count (suc a) = elim (made t inside) [
            | inl same ↦ absurd (false≢true (sym off ∙ sym same ∙ was))
            | inr at ↦ at
          ] in
          let onset : onset_in (suc a) t ≡ begin (suc a) t ∷ [] = elim (onset_cases a t) [
            | inl (none, same) ↦ absurd (false≢true (sym off ∙ same ∙ was))
            | inr is ↦ is
          ] in
          let next : next_of (own_onsets t (row (suc a) ++ xs)) ≡ Some (begin (suc a) t) = ap next_of (own_rest (suc a) t xs inside ∙ ap (λ ys. ys ++ own_onsets t xs) onset) in
          subst (EndsFrom (suc a) (count a) found) (sym next) (omega arith, omega (arith, here, more), begins_later (suc a) (suc a) (ticks (suc a)) (count (suc a)) found (omega arith) (omega (arith, here)) begins)

      nobody_begins : (a : ℕ) (xs : List Onset) → MadeHere a → count a ≤ count (suc a) → Holds (suc a) xs → ((ys : List Onset) → slices_of (row (suc a) ++ ys) ≡ slices_of ys) → Holds a (row (suc a) ++ xs)
      nobody_begins a xs made more later none = record {
        follow = subst FollowInTime (sym (none xs)) later.follow;
        begins = subst (BeginsFrom (suc a) (count a)) (sym (none xs)) (begins_later (suc a) (suc (suc a)) (count a) (count (suc a)) (slices_of xs) (omega arith) more later.begins);
        ends = λ t inside was. subst (λ found. EndsFrom (suc a) (count a) found (next_of (own_onsets t (row (suc a) ++ xs)))) (sym (none xs)) (elim (cases_Bool (runs (suc a) t)) [
          | inl on ↦
              let same : next_of (own_onsets t (row (suc a) ++ xs)) ≡ next_of (own_onsets t xs) = ap next_of (own_rest (suc a) t xs inside ∙ ap (λ ys. ys ++ own_onsets t xs) (onset_none a t was on)) in
              subst (EndsFrom (suc a) (count a) (slices_of xs)) (sym same)
              (ends_later (suc a) (suc (suc a)) (count a) (count (suc a)) (slices_of xs) (next_of (own_onsets t xs)) (omega arith) more (later.ends t inside on))
          | inr off ↦
              stopped a t xs (slices_of xs) inside made more was off
              (begins_later (suc a) (suc (suc a)) (count (suc a)) (count (suc a)) (slices_of xs) (omega arith) (omega arith) later.begins)
        ]);
      }

      one_begins : (a : ℕ) (xs : List Onset) → OneRuns (suc a) → MadeHere a → count a ≤ count (suc a) → count (suc a) ≤ end → Holds (suc a) xs → Begins a (row (suc a)) → Holds a (row (suc a) ++ xs)
      unfolding begin
      one_begins a xs one made more within later b = record {
        follow = subst FollowInTime (sym (b.is xs))
            (follow_cons n end onset (slices_of xs) next (omega (arith, here, within)) (subst (λ tick. EndsFrom (suc (suc a)) tick (slices_of xs) next) (sym here) (later.ends b.who b.inside b.on)) later.follow);
        begins = subst (BeginsFrom (suc a) (count a)) (sym (b.is xs)) begins;
        ends = λ t inside was. subst (λ found. EndsFrom (suc a) (count a) found (next_of (own_onsets t (row (suc a) ++ xs)))) (sym (b.is xs)) (elim (cases_Bool (runs (suc a) t)) [
          | inl on ↦ absurd (false≢true (sym b.was ∙ ap (runs a) (one b.who t b.inside inside b.on on) ∙ was))
          | inr off ↦ stopped a t xs (first ∷ slices_of xs) inside made more was off (omega (arith, begins_first), omega (arith, begins_from, here))
        ]);
      }
        where
          onset : Onset
          onset = begin (suc a) b.who

          next : Option Onset
          next = next_of (own_onsets b.who xs)

          first : Stretch
          first = stretch_to n end onset next

          here : ticks (suc a) ≡ count (suc a)
          here = elim (made b.who b.inside) [
            | inl same ↦ absurd (false≢true (sym b.was ∙ same ∙ b.on))
            | inr at ↦ at
          ]

          begins_first : first.first ≡ suc a
          begins_first = to_first n end onset next

          begins_from : first.from ≡ ticks (suc a)
          begins_from = from_onset n end onset next

          begins : BeginsFrom (suc a) (count a) (first ∷ slices_of xs)
          begins = (omega (arith, begins_first), omega (arith, begins_from, here, more))

      holds : ((k : ℕ) → k ≤ n → OneRuns k) → ((k : ℕ) → k < n → MadeHere k) → ((k : ℕ) → k < n → count k ≤ count (suc k)) → ((k : ℕ) → k ≤ n → count k ≤ end)
          → (j a : ℕ) → suc a + j ≡ n + 1 → Holds a (rest (suc a) j)
      holds one made more within zero a all = none_holds a
      holds one made more within (suc j) a all =
          let before : a < n = omega (arith, all) in
          let later : Holds (suc a) (rest (suc a + 1) j) = subst (λ k. Holds (suc a) (rest k j)) (sym (add-one (suc a))) (holds one made more within j (suc a) (omega (arith, all))) in
          elim (row_cases a (one (suc a) before)) [
            | inl none ↦ nobody_begins a (rest (suc a + 1) j) (made a before) (more a before) later none
            | inr begins ↦ one_begins a (rest (suc a + 1) j) (one (suc a) before) (made a before) (more a before) (within (suc a) before) later begins
          ]

      first_none : ((t : ℕ) → t < m → runs 0 t ≡ false) → (a j : ℕ) → a + j ≡ m → NoneRuns (onsets_from 0 a j)
      unfolding onsets_from onset_in NoneRuns
      first_none still a zero all = tt
      first_none still a (suc j) all = (still a (omega (arith, all)), first_none still (a + 1) j (omega (arith, all)))

      pub all_follow : ((t : ℕ) → t < m → runs 0 t ≡ false) → ((k : ℕ) → k ≤ n → OneRuns k) → ((k : ℕ) → k < n → MadeHere k)
          → ((k : ℕ) → k < n → count k ≤ count (suc k)) → ((k : ℕ) → k ≤ n → count k ≤ end) → FollowInTime (slices_of (rest 0 (n + 1)))
      unfolding row onsets_from
      all_follow still one made more within =
          subst (λ k. FollowInTime (slices_of (rest 0 k))) (sym (add-one n))
          (subst FollowInTime (sym (slices_behind (row 0) (rest 1 n) (first_none still 0 m (omega arith)))) (holds one made more within n 0 (omega arith)).follow)
