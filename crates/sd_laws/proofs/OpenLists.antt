-- The open list of a set is exact: each processor of the set that is not closing is in it.
use Rattle.std.proofs.Common.{◌≡◌, ◌≢◌, ℕ, ◌+◌, ◌<◌, ◌≤◌, Bool, true, false, not, ◌&&◌, ◌||◌, List, [], ◌∷◌, length, get_or, Option, Some, None, refl, sym, ap, ◌∙◌, subst, inl, inr, ◌⊎◌, arith}
use Rattle.std.specs.Prelude.{if◌then◌else◌, is_none, nat_lt, ◌==◌, IfSome}
use Rattle.std.proofs.lemmas.Bool.{cases_eq, eq-eqb, eqb-true, false≢true, or_right, and_from}
use Rattle.std.proofs.lemmas.Bool.Decides.{nat_tests}
use Rattle.std.proofs.lemmas.List.{length-set}
use Rattle.std.proofs.lemmas.List.FromFn.{get_or-map-range_with_len}
use Rattle.sd_basics.proofs.Numbers.{same_itself}
use Rattle.sd_basics.proofs.Truths.{and_left, and_right}
use Rattle.arrayvec.specs.ArrayVec.{ArrayVec}
use Rattle.sd_types.specs.declared.numbers.CpuId.{CpuId}
use Rattle.sd_types.specs.declared.numbers.SetId.{SetId}
use Rattle.sd_types.specs.declared.events.AssignAnswer.{AssignAnswer}
use Rattle.sd_types.specs.declared.events.AssignAnswer.TheVariants as assign
use Rattle.sd_types.specs.declared.events.Event.{Event}
use Rattle.sd_types.specs.declared.events.Event.TheVariants.{Assign, Joined}
use Rattle.sd_types.specs.declared.scripts.Op.TheVariants as op
use Rattle.sd_types.specs.declared.works.Work.{Work}
use Rattle.sd_types.specs.Partitions.{set_of_cpu, cpus_of_set}
use Rattle.sd_state.specs.declared.states.CpuState.{CpuState}
use Rattle.sd_state.specs.declared.states.State.{State}
use Rattle.sd_state.specs.States.{no_cpu, cpu_of, with_cpu}
use Rattle.sd_state.specs.Opening.{open_list, opening}
use Rattle.sd_state.proofs.OpeningSets.{opening_set}
use Rattle.sd_machine.specs.Threads.{no_cpus, open_of, with_open, runner}
use Rattle.sd_machine.specs.Changes.{with_cpu_in, without_cpu, close, join}
use Rattle.sd_machine.specs.SetChanges.{cleared, assigned, joined}
use Rattle.sd_machine.specs.Shapes.{FitsFully}
use Rattle.sd_machine.specs.Changes.{set_duty}
use Rattle.sd_machine.specs.Events.{dropped_duty, drop_ageing, effect, after}
use Rattle.sd_rules.proofs.PartitionLemmas.{names-passing, passing-named, set-at_most}
use Rattle.sd_frames.specs.Causes.{IsCause}
use Rattle.sd_invariants.specs.Laws.{HoldsWhenReached, OpenHold, is_in, IsRising}
use Rattle.sd_frames.proofs.Parts.{put_item}
use Rattle.sd_frames.proofs.CpuWords as C
use Rattle.sd_frames.proofs.FieldWords as F
use Rattle.sd_invariants.proofs.OpenLemmas.{place_part, place_marks, drop_places, SamePlaces, cpus_same, open_field, finish_open, open_same, other_place, in_later, range_rises}
use Rattle.sd_invariants.proofs.Whole.{reached_whole}
use Rattle.sd_invariants.specs.There.{IsSetThere}
use Rattle.sd_invariants.proofs.Induction.{held_reached}
use Rattle.sd_invariants.proofs.Named.{acts_named, assign_cpu}
use Rattle.sd_invariants.proofs.Sets.{SetsAreThere, sets_are_there, sets_are_open, open_written}
use Rattle.sd_laws.specs.Belonging.{open_cpus, OpenListsAreExact}
use Rattle.sd_laws.proofs.Basics.{none_of}
use Rattle.std.proofs.lemmas.Option.{none-some}
use Rattle.sd_types.proofs.SameLemmas.{same_cpu}

-- Lists of processors.

still_in : (c : ℕ) (d : CpuId) (xs : List CpuId) → c ≢ d.0 → is_in c xs ≡ true → is_in c (without_cpu d xs) ≡ true
still_in c d [] other e = cc
still_in c d (x ∷ xs) other e = by (x.0 == d.0) (x.0 == c) refl refl (λ f. still_in c d xs other f) e
  where
    by : (a b : Bool) → (x.0 == d.0) ≡ a → (x.0 == c) ≡ b → (is_in c xs ≡ true → is_in c (without_cpu d xs) ≡ true) → (b || is_in c xs) ≡ true → is_in c (if not a then (x ∷ without_cpu d xs) else without_cpu d xs) ≡ true
    by true true is here more f = absurd (let a : x.0 ≡ d.0 = grind (arith, nat_tests) in let b : x.0 ≡ c = grind (arith, nat_tests) in other (sym b ∙ a))
    by true false is here more f = more f
    by false true is here more f = rw here refl
    by false false is here more f = or_right (x.0 == c) (is_in c (without_cpu d xs)) (more f)

with_itself : (c : CpuId) (xs : List CpuId) → is_in c.0 (with_cpu_in c xs) ≡ true
with_itself c [] = rw (same_itself c.0) refl
with_itself c (x ∷ xs) = by (nat_lt c.0 x.0) (with_itself c xs)
  where
    by : (b : Bool) → is_in c.0 (with_cpu_in c xs) ≡ true → is_in c.0 (if b then (c ∷ (x ∷ xs)) else (x ∷ with_cpu_in c xs)) ≡ true
    by true more = rw (same_itself c.0) refl
    by false more = or_right (x.0 == c.0) (is_in c.0 (with_cpu_in c xs)) more

with_others : (d : ℕ) (c : CpuId) (xs : List CpuId) → is_in d xs ≡ true → is_in d (with_cpu_in c xs) ≡ true
with_others d c [] e = cc
with_others d c (x ∷ xs) e = by (nat_lt c.0 x.0) (x.0 == d) refl (λ f. with_others d c xs f) e
  where
    by : (b h : Bool) → (x.0 == d) ≡ h → (is_in d xs ≡ true → is_in d (with_cpu_in c xs) ≡ true) → (h || is_in d xs) ≡ true → is_in d (if b then (c ∷ (x ∷ xs)) else (x ∷ with_cpu_in c xs)) ≡ true
    by true h is more f = or_right (c.0 == d) _ (rw is f)
    by false true is more f = rw is refl
    by false false is more f = or_right (x.0 == d) (is_in d (with_cpu_in c xs)) (more f)

-- Each processor that is not closing is in the open list of its set.

abbrev pub AreListed : Work → State → Type 0
AreListed w s = (c : ℕ) → c < w.cpus → (cpu_of s c).closing ≡ None → is_in c (open_of s (cpu_of s c).set.0) ≡ true

same_listed : (w : Work) (s r : State) → SamePlaces s r → r.open_cpus ≡ s.open_cpus → AreListed w s → AreListed w r
same_listed w s r same lists listed c inside opened =
    let set_is : (cpu_of r c).set ≡ (cpu_of s c).set = ap (λ (x : SetId × Option SetId). x.0) (same.each c) in
    let was : (cpu_of s c).closing ≡ None = sym (ap (λ (x : SetId × Option SetId). x.1) (same.each c)) ∙ opened in
    subst (λ (p : SetId). is_in c (open_of r p.0) ≡ true) (sym set_is)
    (subst (λ (xs : List (ArrayVec CpuId)). is_in c (get_or xs (cpu_of s c).set.0 no_cpus).items ≡ true) (sym lists) (listed c inside was))

-- the set of each processor has an open list
abbrev HaveLists : State → Type 0
HaveLists s = (c : ℕ) → (cpu_of s c).set.0 < length s.open_cpus

close_listed : (w : Work) (s : State) (d : CpuId) (to : SetId) → d.0 < length s.cpus → HaveLists s → AreListed w s → AreListed w (close s d to)
unfolding close
close_listed w s d to inside lists listed c here opened = by (open_written s p0 left (cpu_of s c).set.0 (lists c))
  where
    p0 : ℕ
    p0 = (cpu_of s d.0).set.0

    left : List CpuId
    left = without_cpu d (open_of s p0)

    x : CpuState
    x = record (cpu_of s d.0) { closing = Some to }

    wrote : State
    wrote = with_open s p0 left

    other : c ≢ d.0
    other e =
        let now : place_part (cpu_of (with_cpu wrote d.0 x) d.0) ≡ (x.set, Some to) = (put_item place_part s.cpus no_cpu d.0 x inside).at in
        none-some to (sym opened ∙ ap (λ i. (cpu_of (with_cpu wrote d.0 x) i).closing) e ∙ ap (λ (y : SetId × Option SetId). y.1) now)

    same : place_part (cpu_of (with_cpu wrote d.0 x) c) ≡ place_part (cpu_of s c)
    same = other_place wrote d.0 x c other

    was : is_in c (open_of s (cpu_of s c).set.0) ≡ true
    was = listed c here (sym (ap (λ (y : SetId × Option SetId). y.1) same) ∙ opened)

    at : is_in c (open_of wrote (cpu_of s c).set.0) ≡ true → is_in c (open_of (with_cpu wrote d.0 x) (cpu_of (with_cpu wrote d.0 x) c).set.0) ≡ true
    at e = subst (λ (p : SetId). is_in c (open_of wrote p.0) ≡ true) (sym (ap (λ (y : SetId × Option SetId). y.0) same)) e

    by : (((cpu_of s c).set.0 ≡ p0) × (open_of wrote (cpu_of s c).set.0 ≡ left)) ⊎ (((cpu_of s c).set.0 ≢ p0) × (open_of wrote (cpu_of s c).set.0 ≡ open_of s (cpu_of s c).set.0))
        → is_in c (open_of (with_cpu wrote d.0 x) (cpu_of (with_cpu wrote d.0 x) c).set.0) ≡ true
    by (inl (is, now)) = at (subst (λ xs. is_in c xs ≡ true) (sym now) (still_in c d (open_of s p0) other (subst (λ i. is_in c (open_of s i) ≡ true) is was)))
    by (inr (apart, now)) = at (subst (λ xs. is_in c xs ≡ true) (sym now) was)

join_listed : (w : Work) (s : State) (c : CpuId) (to : SetId) → c.0 < length s.cpus → to.0 < length s.open_cpus → HaveLists s → AreListed w s → AreListed w (join s c to)
unfolding join
join_listed w s c to inside there lists listed d here opened = elim (cases_eq d c.0) [
  | inl is ↦
      let now : place_part (cpu_of (with_cpu wrote c.0 x) c.0) ≡ (to, None) = (put_item place_part s.cpus no_cpu c.0 x inside).at in
      let joins : (cpu_of (with_cpu wrote c.0 x) d).set ≡ to = ap (λ i. (cpu_of (with_cpu wrote c.0 x) i).set) is ∙ ap (λ (y : SetId × Option SetId). y.0) now in
      subst (λ (p : SetId). is_in d (open_of wrote p.0) ≡ true) (sym joins)
      (elim (open_written s to.0 more to.0 there) [
        | inl (_, wrote_it) ↦ subst (λ xs. is_in d xs ≡ true) (sym wrote_it) (subst (λ i. is_in i more ≡ true) (sym is) (with_itself c (open_of s to.0)))
        | inr (other, _) ↦ absurd (other refl)
      ])
  | inr other ↦
      let same = other_place wrote c.0 x d other in
      let was = listed d here (sym (ap (λ (y : SetId × Option SetId). y.1) same) ∙ opened) in
      subst (λ (p : SetId). is_in d (open_of wrote p.0) ≡ true) (sym (ap (λ (y : SetId × Option SetId). y.0) same))
      (elim (open_written s to.0 more (cpu_of s d).set.0 (lists d)) [
        | inl (at, now) ↦ subst (λ xs. is_in d xs ≡ true) (sym now) (with_others d c (open_of s to.0) (subst (λ i. is_in d (open_of s i) ≡ true) at was))
        | inr (apart, now) ↦ subst (λ xs. is_in d xs ≡ true) (sym now) was
      ])
]
  where
    more : List CpuId
    more = with_cpu_in c (open_of s to.0)

    x : CpuState
    x = record (cpu_of s c.0) { set = to; closing = None }

    wrote : State
    wrote = with_open s to.0 more

have_lists : (w : Work) (s : State) → FitsFully w s → SetsAreThere w s → HaveLists s
have_lists w s fits sets c = let there : (cpu_of s c).set.0 ≤ length w.sets = (sets c).0 in let many = fits.sets in omega (arith, there, many)

assigned_listed : (w : Work) (s : State) (t : ℕ) (d : CpuId) (to : SetId) (answer : AssignAnswer) → d.0 < length s.cpus → HaveLists s → AreListed w s → AreListed w (assigned w s t d to answer)
unfolding assigned
assigned_listed w s t d to assign.Changed inside lists listed =
    same_listed w (close s d to) _ (C.then_kept place_part (close s d to) (cleared (close s d to) d (runner s d.0)) _ (C.cleared_kept place_part place_marks (close s d to) d (runner s d.0)) (C.finish_op_kept place_part place_marks w _ t))
    (finish_open w (cleared (close s d to) d (runner s d.0)) t ∙ (F.cleared_kept open_field (λ s t x. refl) (λ s c x. refl) (close s d to) d (runner s d.0)).same) (close_listed w s d to inside lists listed)
assigned_listed w s t d to assign.EPERM inside lists listed = same_listed w s _ (C.finish_op_kept place_part place_marks w s t) (finish_open w s t) listed
assigned_listed w s t d to assign.EINVAL inside lists listed = same_listed w s _ (C.finish_op_kept place_part place_marks w s t) (finish_open w s t) listed
assigned_listed w s t d to assign.EBUSY inside lists listed = same_listed w s _ (C.finish_op_kept place_part place_marks w s t) (finish_open w s t) listed

joined_listed : (w : Work) (s : State) (c : CpuId) (to : SetId) → c.0 < length s.cpus → to.0 < length s.open_cpus → HaveLists s → AreListed w s → AreListed w (joined s c to)
unfolding joined
joined_listed w s c to inside there lists listed = join_listed w s c to inside there lists listed

drop_listed : (w : Work) (s : State) (c : ℕ) (e : Event) → AreListed w s → AreListed w (drop_ageing s c e)
unfolding drop_ageing set_duty
drop_listed w s c e listed = same_listed w s (drop_ageing s c e) (drop_places s c e) refl listed

drop_lists : (s : State) (c : ℕ) (e : Event) → HaveLists s → HaveLists (drop_ageing s c e)
unfolding drop_ageing set_duty
drop_lists s c e lists d = subst (λ (p : SetId). p.0 < length s.open_cpus) (sym (ap (λ (x : SetId × Option SetId). x.0) ((drop_places s c e).each d))) (lists d)

drop_cpus : (s : State) (c : ℕ) (e : Event) (d : ℕ) → d < length s.cpus → d < length (drop_ageing s c e).cpus
unfolding drop_ageing set_duty
drop_cpus s c e d inside = let many = length-set s.cpus c (record (cpu_of s c) { duty = dropped_duty e (cpu_of s c).duty }) in omega (arith, inside, many)

drop_many : (s : State) (c : ℕ) (e : Event) (p : ℕ) → p < length s.open_cpus → p < length (drop_ageing s c e).open_cpus
unfolding drop_ageing set_duty
drop_many s c e p inside = inside

listed_kept : (w : Work) (s : State) (n : ℕ) (c : CpuId) (e : Event) → FitsFully w s → SetsAreThere w s → c.0 < w.cpus → IsCause w s c.0 e → AreListed w s → AreListed w (after w s n c e)
unfolding after effect
listed_kept w s n c (Assign t d to answer) fits sets here cause listed =
    let inside : d.0 < length s.cpus = let there = assign_cpu w d to (acts_named w s c.0 t.0 (op.Assign d to) cause.0) in let many = fits.cpus in omega (arith, there, many) in
    assigned_listed w (drop_ageing s c.0 (Assign t d to answer)) t.0 d to answer (drop_cpus s c.0 (Assign t d to answer) d.0 inside) (drop_lists s c.0 (Assign t d to answer) (have_lists w s fits sets)) (drop_listed w s c.0 (Assign t d to answer) listed)
listed_kept w s n c (Joined to) fits sets here cause listed =
    let inside : c.0 < length s.cpus = let many = fits.cpus in omega (arith, here, many) in
    let set_in : to.0 ≤ length w.sets = subst (λ o. IfSome o (IsSetThere w)) cause.1 (sets c.0).1 in
    let there : to.0 < length s.open_cpus = let many = fits.sets in omega (arith, set_in, many) in
    joined_listed w (drop_ageing s c.0 (Joined to)) c to (drop_cpus s c.0 (Joined to) c.0 inside) (drop_many s c.0 (Joined to) to.0 there) (drop_lists s c.0 (Joined to) (have_lists w s fits sets)) (drop_listed w s c.0 (Joined to) listed)
listed_kept w s n c e fits sets here cause listed = same_listed w s (after w s n c e) (cpus_same w s n c e refl) (open_same w s n c e refl) listed

-- The initial state.

first_list : (w : Work) (p : ℕ) → p ≤ length w.sets → open_of (opening w) p ≡ cpus_of_set w p
unfolding opening
first_list w p there = ap (λ (x : ArrayVec CpuId). x.items) (get_or-map-range_with_len (open_list w) 0 (length w.sets + 1) p p no_cpus (omega (arith, there)) (omega arith))

opening_listed : (w : Work) → AreListed w (opening w)
opening_listed w c here opened =
    subst (λ i. is_in c (open_of (opening w) i) ≡ true) (sym (opening_set w c here))
    (subst (λ xs. is_in c xs ≡ true) (sym (first_list w (set_of_cpu w c) (set-at_most w c)))
    (names-passing w.cpus 0 c (λ d. set_of_cpu w d == set_of_cpu w c) (omega arith) (omega (arith, here)) (same_itself (set_of_cpu w c))))

pub are_listed : HoldsWhenReached AreListed
are_listed = held_reached AreListed (record {
  start = opening_listed;
  step = λ w s n c e reached here cause listed. listed_kept w s n c e (reached_whole w n s reached).ready.fits (sets_are_there w n s reached) here cause listed;
})

-- Rising lists with the same members are equal.

pub in_first : (d : CpuId) (ds : List CpuId) → is_in d.0 (d ∷ ds) ≡ true
in_first d ds = rw (same_itself d.0) refl

rising_least : (n c : ℕ) (xs : List CpuId) → IsRising n xs → is_in c xs ≡ true → n ≤ c
rising_least n c [] rises e = cc
rising_least n c (x ∷ xs) (least, rises) e = elim (in_later c x xs e) [
  | inl is ↦ omega (arith, is, least)
  | inr later ↦ let more = rising_least (x.0 + 1) c xs rises later in omega (arith, more, least)
]

rising_equal : (n : ℕ) (xs ys : List CpuId) → IsRising n xs → IsRising n ys → ((c : ℕ) → is_in c xs ≡ true → is_in c ys ≡ true) → ((c : ℕ) → is_in c ys ≡ true → is_in c xs ≡ true) → xs ≡ ys
rising_equal n [] [] a b to from = refl
rising_equal n [] (y ∷ ys) a b to from = absurd (false≢true (from y.0 (in_first y ys)))
rising_equal n (x ∷ xs) [] a b to from = absurd (false≢true (to x.0 (in_first x xs)))
rising_equal n (x ∷ xs) (y ∷ ys) (least, a) (least', b) to from =
    ap (λ z. z ∷ xs) (same_cpu x y same) ∙ ap (λ zs. y ∷ zs) (rising_equal (x.0 + 1) xs ys a (subst (λ i. IsRising (i + 1) ys) (sym same) b) tail_to tail_from)
  where
    same : x.0 ≡ y.0
    same = elim (in_later x.0 y ys (to x.0 (in_first x xs))) [
      | inl is ↦ sym is
      | inr later ↦ elim (in_later y.0 x xs (from y.0 (in_first y ys))) [
        | inl is ↦ is
        | inr also ↦ let up = rising_least (y.0 + 1) x.0 ys b later in let down = rising_least (x.0 + 1) y.0 xs a also in absurd (omega (arith, up, down))
      ]
    ]

    tail_to : (c : ℕ) → is_in c xs ≡ true → is_in c ys ≡ true
    tail_to c e = elim (in_later c y ys (to c (or_right (x.0 == c) (is_in c xs) e))) [
      | inl is ↦ let more = rising_least (x.0 + 1) c xs a e in absurd (omega (arith, is, same, more))
      | inr later ↦ later
    ]

    tail_from : (c : ℕ) → is_in c ys ≡ true → is_in c xs ≡ true
    tail_from c e = elim (in_later c x xs (from c (or_right (y.0 == c) (is_in c ys) e))) [
      | inl is ↦ let more = rising_least (y.0 + 1) c ys b e in absurd (omega (arith, is, same, more))
      | inr later ↦ later
    ]

pub open_lists_are_exact : HoldsWhenReached OpenListsAreExact
open_lists_are_exact w n s reached p there = record {
  exact = rising_equal 0 (open_of s p) (open_cpus w s p) (holds.rising p) (range_rises passes 0 w.cpus) to from;
  some = sets_are_open w n s reached p there;
}
  where
    holds : OpenHold w s
    holds = (reached_whole w n s reached).opened

    passes : ℕ → Bool
    passes c = ((cpu_of s c).set.0 == p) && is_none (cpu_of s c).closing

    to : (c : ℕ) → is_in c (open_of s p) ≡ true → is_in c (open_cpus w s p) ≡ true
    to c e =
        let (inside, its_set, opened) = holds.member p c e in
        names-passing w.cpus 0 c passes (omega arith) (omega (arith, inside)) (and_from ((cpu_of s c).set.0 == p) (is_none (cpu_of s c).closing) (eq-eqb (cpu_of s c).set.0 p its_set) (ap is_none opened))

    from : (c : ℕ) → is_in c (open_cpus w s p) ≡ true → is_in c (open_of s p) ≡ true
    from c e =
        let (least, below, test) = passing-named w.cpus 0 c passes e in
        let its_set : (cpu_of s c).set.0 ≡ p = eqb-true (cpu_of s c).set.0 p (and_left ((cpu_of s c).set.0 == p) (is_none (cpu_of s c).closing) test) in
        subst (λ i. is_in c (open_of s i) ≡ true) its_set
        (are_listed w n s reached c (omega (arith, below)) (none_of (cpu_of s c).closing (and_right ((cpu_of s c).set.0 == p) (is_none (cpu_of s c).closing) test)))
