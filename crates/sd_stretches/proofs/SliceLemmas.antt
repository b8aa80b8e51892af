-- The slices of a processor are exactly its running threads.
use Rattle.std.proofs.Common.{◌≡◌, ℕ, ◌+◌, ◌≤◌, ◌⊎◌, Bool, true, false, inl, inr, List, [], ◌∷◌, ◌++◌, length, Option, refl, sym, ap, subst, ◌∙◌, arith}
use Rattle.std.specs.Prelude.{filter, nat_le, ◌==◌, if◌then◌else◌}
use Rattle.std.proofs.lemmas.Bool.{cases_Bool}
use Rattle.std.proofs.lemmas.Bool.Decides.{nat_tests}
use Rattle.sd_types.specs.declared.numbers.CpuId.{CpuId}
use Rattle.sd_state.specs.declared.states.Place.{Place}
use Rattle.sd_state.specs.declared.states.Place.TheVariants as place
use Rattle.sd_state.specs.States.{thread_of}
use Rattle.sd_machine.specs.Runs.{state_at}
use Rattle.sd_stretches.specs.declared.sights.Doing.{Doing}
use Rattle.sd_stretches.specs.declared.sights.Doing.TheVariants.{Running}
use Rattle.sd_stretches.specs.declared.rows.Stretch.{Stretch}
use Rattle.sd_stretches.specs.declared.changes.Onset.{Onset}
use Rattle.sd_stretches.specs.Sights.{doing_of, runs_on}
use Rattle.sd_stretches.specs.Histories.{over, onsets_in}
use Rattle.sd_stretches.specs.Rows.{all_stretches, next_of, own_stretches, own_onsets, slices, stretch_to, stretches}
use Rattle.sd_stretches.specs.Exact.{doing_at, AreExact, Covers, SlicesAreExact}
use Rattle.sd_stretches.proofs.ExactLemmas.{are_exact, stretch_doing}
use Rattle.sd_stretches.proofs.OrderLemmas.{owned}

-- One onset more.

pub slices_cons : (c n end : ℕ) (x : Onset) (xs : List Onset)
    → slices c (x ∷ xs) n end ≡ (if runs_on c x.doing then stretch_to n end x (next_of (own_onsets x.thread xs)) ∷ [] else []) ++ slices c xs n end
unfolding slices all_stretches
slices_cons c n end x xs = by (runs_on c x.doing) (ap (runs_on c) (stretch_doing n end x next))
  where
    next : Option Onset
    next = next_of (own_onsets x.thread xs)

    by : (b : Bool) → runs_on c (stretch_to n end x next).doing ≡ b
        → (if runs_on c (stretch_to n end x next).doing then stretch_to n end x next ∷ slices c xs n end else slices c xs n end) ≡ (if b then stretch_to n end x next ∷ [] else []) ++ slices c xs n end
    by true is = rw is refl
    by false is = rw is refl

-- Slices of one thread.

swapped : {A : Type 0} (p q : A → Bool) (xs : List A) → filter p (filter q xs) ≡ filter q (filter p xs)
swapped p q [] = refl
swapped p q (x ∷ xs) = by (p x) (q x) refl refl (swapped p q xs)
  where
    by : (a b : Bool) → p x ≡ a → q x ≡ b → filter p (filter q xs) ≡ filter q (filter p xs) → filter p (filter q (x ∷ xs)) ≡ filter q (filter p (x ∷ xs))
    by true true first second same = rw (second, first, second) (ap (λ ys. x ∷ ys) same)
    by true false first second same = rw (first, second) same
    by false true first second same = rw (second, first) same
    by false false first second same = rw (first, second) same

own_slices : (c t n end : ℕ) (xs : List Onset) → own_stretches t (slices c xs n end) ≡ filter (λ x. runs_on c x.doing) (stretches t xs n end)
unfolding slices stretches
own_slices c t n end xs = swapped (λ x. x.thread == t) (λ x. runs_on c x.doing) (all_stretches xs n end) ∙ ap (filter (λ x. runs_on c x.doing)) (owned t n end xs)

runs_is : (c : CpuId) (d : Doing) → runs_on c.0 d ≡ true → d ≡ Running c
runs_is c (Running d) h = let e : d.0 ≡ c.0 = grind (arith, nat_tests) in ap (λ n. Running (record { 0 = n })) e
runs_is c d h = cc

runs_self : (c : CpuId) → runs_on c.0 (Running c) ≡ true
runs_self c = grind (arith, nat_tests)

module _ (f : ℕ → Doing) (n : ℕ) (c : CpuId) where
  running : List Stretch → List Stretch
  running xs = filter (λ x. runs_on c.0 x.doing) xs

  -- where a slice covers a state, the thread runs in it
  covered : (xs : List Stretch) (k j : ℕ) → AreExact f n k xs → Covers (running xs) j → f j ≡ Running c
  unfolding running
  covered [] k j e _ = absurd e
  covered (x ∷ []) k j (first, last, some, all) told = elim (cases_Bool (runs_on c.0 x.doing)) [
    | inl on ↦
        let inside : (x.first ≤ j) × (j ≤ x.last) = one (rw on at told) in
        all j (omega (arith, first, inside.0)) (omega (arith, last, inside.1)) ∙ runs_is c x.doing on
    | inr off ↦ absurd (rw off at told)
  ]
    where
      one : ((x.first ≤ j) × (j ≤ x.last)) ⊎ ⊥ → (x.first ≤ j) × (j ≤ x.last)
      one (inl h) = h
      one (inr none) = absurd none
  covered (x ∷ y ∷ ys) k j (first, some, all, other, rest) told = elim (cases_Bool (runs_on c.0 x.doing)) [
    | inl on ↦ either on (covered (y ∷ ys) (x.last + 1) j rest) (rw on at told)
    | inr off ↦ covered (y ∷ ys) (x.last + 1) j rest (rw off at told)
  ]
    where
      either : runs_on c.0 x.doing ≡ true → (Covers (running (y ∷ ys)) j → f j ≡ Running c) → ((x.first ≤ j) × (j ≤ x.last)) ⊎ Covers (running (y ∷ ys)) j → f j ≡ Running c
      either on later (inl (from, to)) = all j (omega (arith, first, from)) to ∙ runs_is c x.doing on
      either on later (inr more) = later more

  -- where the thread runs, a slice covers the state
  covers : (xs : List Stretch) (k j : ℕ) → AreExact f n k xs → k ≤ j → j ≤ n → f j ≡ Running c → Covers (running xs) j
  unfolding running
  covers [] k j e from to is = absurd e
  covers (x ∷ []) k j (first, last, some, all) from to is =
      let on : runs_on c.0 x.doing ≡ true = ap (runs_on c.0) (sym (all j from to) ∙ is) ∙ runs_self c in
      rw on (inl (omega (arith, first, from), omega (arith, last, to)))
  covers (x ∷ y ∷ ys) k j (first, some, all, other, rest) from to is = elim (cases_Bool (nat_le j x.last)) [
    | inl within ↦
        let inside : j ≤ x.last = grind (arith, nat_tests) in
        let on : runs_on c.0 x.doing ≡ true = ap (runs_on c.0) (sym (all j from inside) ∙ is) ∙ runs_self c in
        rw on (inl (omega (arith, first, from), inside))
    | inr beyond ↦
        let later : Covers (running (y ∷ ys)) j = covers (y ∷ ys) (x.last + 1) j rest (grind (arith, nat_tests)) to is in
        by (runs_on c.0 x.doing) refl later
  ]
    where
      by : (b : Bool) → runs_on c.0 x.doing ≡ b → Covers (running (y ∷ ys)) j → Covers (running (x ∷ y ∷ ys)) j
      by true is later = rw is (inr later)
      by false is later = rw is later

place_of : (x : Place) (c : CpuId) → doing_of x ≡ Running c → x ≡ place.Running c
place_of (place.Running d) c is = cc
place_of x c is = cc

pub slices_exact : SlicesAreExact
unfolding running
slices_exact w es t end j c here inside =
    let f = doing_at w es t in
    let n = length es in
    let xs = stretches t (over onsets_in w es) n end in
    let own = own_slices c.0 t n end (over onsets_in w es) in
    let exact = are_exact w es t end here in (
      λ told. place_of (thread_of (state_at w es j) t).place c (covered f n c xs 0 j exact (subst (λ ys. Covers ys j) own told)),
      λ runs. subst (λ ys. Covers ys j) (sym own) (covers f n c xs 0 j exact (omega arith) inside (ap doing_of runs)),
    )
