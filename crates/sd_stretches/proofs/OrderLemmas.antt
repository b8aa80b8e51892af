-- The stretches of all threads stand in the order of the entries that began them.
use Rattle.std.proofs.Common.{◌≡◌, ℕ, zero, suc, ◌+◌, ◌<◌, ◌≤◌, inl, inr, List, [], ◌∷◌, ◌++◌, length, Option, Some, None, refl, sym, ap, subst, ◌∙◌, arith}
use Rattle.std.specs.Prelude.{◌==◌, if◌then◌else◌, ⊤, slice_get, slice_index_or}
use Rattle.std.specs.List.{flat_map, range_with_len}
use Rattle.std.specs.List.Sorted.{IsNonDecreasingBy}
use Rattle.std.proofs.lemmas.Bool.{cases_Bool}
use Rattle.std.proofs.lemmas.Bool.Decides.{nat_tests}
use Rattle.sd_types.specs.declared.events.Entry.{Entry}
use Rattle.sd_types.specs.declared.works.Work.{Work}
use Rattle.sd_stretches.specs.declared.sights.Sight.{Sight}
use Rattle.sd_stretches.specs.declared.changes.Onset.{Onset}
use Rattle.sd_stretches.specs.declared.rows.Stretch.{Stretch}
use Rattle.sd_stretches.specs.Sights.{same_doing, sights_of}
use Rattle.sd_stretches.specs.Changes.{onset_if, onsets_between}
use Rattle.sd_stretches.specs.Histories.{moment, tick_of, over, onsets_in}
use Rattle.sd_stretches.specs.Rows.{all_stretches, next_of, own_stretches, own_onsets, stretch_to, stretches, stretches_of}
use Rattle.sd_stretches.specs.Order.{StretchesStandInOrder}

-- Those of each thread are its own.

to_thread : (n end : ℕ) (x : Onset) (next : Option Onset) → (stretch_to n end x next).thread ≡ x.thread
to_thread n end x None = refl
to_thread n end x (Some y) = refl

pub to_first : (n end : ℕ) (x : Onset) (next : Option Onset) → (stretch_to n end x next).first ≡ x.first
to_first n end x None = refl
to_first n end x (Some y) = refl

pub owned : (t n end : ℕ) (xs : List Onset) → own_stretches t (all_stretches xs n end) ≡ stretches_of n end (own_onsets t xs)
unfolding all_stretches stretches_of
owned t n end [] = refl
owned t n end (x ∷ xs) = elim (cases_Bool (x.thread == t)) [
  | inl own ↦
      let same : x.thread ≡ t = grind (arith, nat_tests) in
      let s : Stretch = stretch_to n end x (next_of (own_onsets x.thread xs)) in
      ap (λ b. if b then s ∷ own_stretches t (all_stretches xs n end) else own_stretches t (all_stretches xs n end)) (ap (λ u. u == t) (to_thread n end x (next_of (own_onsets x.thread xs))) ∙ own)
      ∙ ap (λ u. stretch_to n end x (next_of (own_onsets u xs)) ∷ own_stretches t (all_stretches xs n end)) same
      ∙ ap (λ ys. stretch_to n end x (next_of (own_onsets t xs)) ∷ ys) (owned t n end xs)
      ∙ sym (ap (λ b. stretches_of n end (if b then x ∷ own_onsets t xs else own_onsets t xs)) own)
  | inr other ↦
      let s : Stretch = stretch_to n end x (next_of (own_onsets x.thread xs)) in
      ap (λ b. if b then s ∷ own_stretches t (all_stretches xs n end) else own_stretches t (all_stretches xs n end)) (ap (λ u. u == t) (to_thread n end x (next_of (own_onsets x.thread xs))) ∙ other)
      ∙ owned t n end xs
      ∙ sym (ap (λ b. stretches_of n end (if b then x ∷ own_onsets t xs else own_onsets t xs)) other)
]

-- Numbers that do not fall, from one on.

module _ {X : Type 0} (n : X → ℕ) where
  RisesFrom : ℕ → List X → Type 0
  RisesFrom k [] = ⊤
  RisesFrom k (x ∷ xs) = (k ≤ n x) × RisesFrom (n x) xs

  AllAre : ℕ → List X → Type 0
  AllAre k [] = ⊤
  AllAre k (x ∷ xs) = (n x ≡ k) × AllAre k xs

  are_append : (k : ℕ) (xs ys : List X) → AllAre k xs → AllAre k ys → AllAre k (xs ++ ys)
  unfolding AllAre
  are_append k [] ys all more = more
  are_append k (x ∷ xs) ys (is, all) more = (is, are_append k xs ys all more)

  are_flat : (f : ℕ → List X) (k a m : ℕ) → ((t : ℕ) → AllAre k (f t)) → AllAre k (flat_map f (range_with_len a m))
  unfolding AllAre
  are_flat f k a zero all = tt
  are_flat f k a (suc m) all = are_append k (f a) (flat_map f (range_with_len (a + 1) m)) (all a) (are_flat f k (a + 1) m all)

  from_less : (j k : ℕ) (xs : List X) → j ≤ k → RisesFrom k xs → RisesFrom j xs
  unfolding RisesFrom
  from_less j k [] less rises = tt
  from_less j k (x ∷ xs) less (from, rises) = (omega (arith, less, from), rises)

  in_front : (k : ℕ) (xs ys : List X) → AllAre k xs → RisesFrom k ys → RisesFrom k (xs ++ ys)
  unfolding RisesFrom AllAre
  in_front k [] ys all rises = rises
  in_front k (x ∷ xs) ys (is, all) rises = (omega (arith, is), subst (λ j. RisesFrom j (xs ++ ys)) (sym is) (in_front k xs ys all rises))

  range_rises : (f : ℕ → List X) (a m : ℕ) → ((k : ℕ) → AllAre k (f k)) → RisesFrom a (flat_map f (range_with_len a m))
  unfolding RisesFrom
  range_rises f a zero all = tt
  range_rises f a (suc m) all =
      let rest = flat_map f (range_with_len (a + 1) m) in
      in_front a (f a) rest (all a) (from_less a (a + 1) rest (omega arith) (range_rises f (a + 1) m all))

  least : (k : ℕ) (xs : List X) → RisesFrom k xs → (j : ℕ) (d : X) → j < length xs → k ≤ n (slice_index_or xs j d)
  unfolding RisesFrom
  least k [] rises j d inside = absurd (omega (arith, inside))
  least k (x ∷ xs) (from, rises) zero d inside = from
  least k (x ∷ xs) (from, rises) (suc j) d inside = let rest = least (n x) xs rises j d (omega (arith, inside)) in omega (arith, from, rest)

  non_decreasing : (k : ℕ) (xs : List X) → RisesFrom k xs → IsNonDecreasingBy n xs
  unfolding RisesFrom
  non_decreasing k [] rises i j d before inside = absurd (omega (arith, inside))
  non_decreasing k (x ∷ xs) (from, rises) zero zero d before inside = omega arith
  non_decreasing k (x ∷ xs) (from, rises) zero (suc j) d before inside = least (n x) xs rises j d (omega (arith, inside))
  non_decreasing k (x ∷ xs) (from, rises) (suc i) zero d before inside = absurd (omega (arith, before))
  non_decreasing k (x ∷ xs) (from, rises) (suc i) (suc j) d before inside = non_decreasing (n x) xs rises i j d (omega (arith, before)) (omega (arith, inside))

-- The onsets of a run stand in the order of the entries that began them.

onset_first : Onset → ℕ
onset_first x = x.first

stretch_first : Stretch → ℕ
stretch_first x = x.first

if_first : (t k tick : ℕ) (old new : Option Sight) → AllAre onset_first k (onset_if t k tick old new)
unfolding AllAre onset_first
if_first t k tick old None = tt
if_first t k tick None (Some x) = (refl, tt)
if_first t k tick (Some y) (Some x) = elim (cases_Bool (same_doing y.doing x.doing)) [
  | inl same ↦ rw same tt
  | inr differs ↦ rw differs (refl, tt)
]

onsets_rise : (w : Work) (es : List Entry) → RisesFrom onset_first 0 (over onsets_in w es)
unfolding over onsets_between moment
onsets_rise w es =
    range_rises onset_first (λ k. onsets_in (moment w es k)) 0 (length es + 1)
    (λ k.
    let m = moment w es k in
    are_flat onset_first (λ t. onset_if t k (tick_of m) (slice_get m.earlier t) (slice_get (sights_of m.state) t)) k 0 (length (sights_of m.state))
    (λ t. if_first t k (tick_of m) (slice_get m.earlier t) (slice_get (sights_of m.state) t)))

stretches_rise : (n end k : ℕ) (xs : List Onset) → RisesFrom onset_first k xs → RisesFrom stretch_first k (all_stretches xs n end)
unfolding RisesFrom all_stretches onset_first stretch_first
stretches_rise n end k [] rises = tt
stretches_rise n end k (x ∷ xs) (from, rises) =
    let same : (stretch_to n end x (next_of (own_onsets x.thread xs))).first ≡ x.first = to_first n end x (next_of (own_onsets x.thread xs)) in
    (omega (arith, from, same), subst (λ j. RisesFrom stretch_first j (all_stretches xs n end)) (sym same) (stretches_rise n end x.first xs rises))

pub in_order : StretchesStandInOrder
unfolding stretches stretch_first
in_order = record {
  own = λ xs t entries end. owned t entries end xs;
  ordered = λ w es end. non_decreasing stretch_first 0 (all_stretches (over onsets_in w es) (length es) end) (stretches_rise (length es) end 0 (over onsets_in w es) (onsets_rise w es));
}
