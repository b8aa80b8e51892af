-- Each set has an open processor; the set of each processor, and the one to which it is closing, are there.
use Rattle.std.proofs.Common.{◌≡◌, ◌≢◌, ℕ, zero, suc, ◌+◌, ◌<◌, ◌≤◌, Bool, true, false, not, ◌||◌, List, [], ◌∷◌, length, get_or, set, Option, Some, None, refl, sym, ap, ◌∙◌, subst, inl, inr, ◌⊎◌, arith}
use Rattle.std.specs.Prelude.{if◌then◌else◌, is_some, map, nat_lt, ◌==◌, IfSome}
use Rattle.std.specs.List.{range_with_len}
use Rattle.std.proofs.lemmas.Bool.{cases_eq, cases_lt, eqb-false}
use Rattle.std.proofs.lemmas.Bool.Decides.{nat_tests}
use Rattle.std.proofs.lemmas.List.{get_or-set_same, get_or-set_other}
use Rattle.std.proofs.lemmas.List.FromFn.{get_or-map-range_with_len}
use Rattle.std.proofs.lemmas.List.{set_past}
use Rattle.arrayvec.specs.ArrayVec.{ArrayVec}
use Rattle.sd_types.specs.declared.numbers.CpuId.{CpuId}
use Rattle.sd_types.specs.declared.numbers.SetId.{SetId}
use Rattle.sd_types.specs.declared.events.AssignAnswer.{AssignAnswer}
use Rattle.sd_types.specs.declared.events.AssignAnswer.TheVariants as assign
use Rattle.sd_types.specs.declared.events.Event.{Event}
use Rattle.sd_types.specs.declared.events.Event.TheVariants.{Assign, Joined}
use Rattle.sd_types.specs.declared.scripts.Op.TheVariants as op
use Rattle.sd_types.specs.declared.works.Work.{Work}
use Rattle.sd_types.specs.Partitions.{cpus_of_set}
use Rattle.sd_rules.proofs.PartitionLemmas.{some_cpu, set-at_most}
use Rattle.sd_state.specs.declared.states.CpuState.{CpuState}
use Rattle.sd_state.specs.declared.states.State.{State}
use Rattle.sd_state.specs.States.{no_cpu, cpu_of, with_cpu}
use Rattle.sd_state.specs.Opening.{first_cpu_state, open_list, opening}
use Rattle.sd_machine.specs.Shapes.{FitsFully}
use Rattle.sd_machine.specs.Threads.{no_cpus, open_of, with_open, runner}
use Rattle.sd_machine.specs.Changes.{with_cpu_in, without_cpu, set_duty, close, join}
use Rattle.sd_machine.specs.Prioritising.{is_privileged}
use Rattle.sd_machine.specs.SetChanges.{assign_answer, cleared, assigned, joined}
use Rattle.sd_machine.specs.Events.{drop_ageing, effect, after}
use Rattle.sd_frames.specs.Causes.{IsCause}
use Rattle.sd_invariants.specs.Laws.{HoldsWhenReached, OpenHold, IsRising}
use Rattle.sd_frames.proofs.Parts.{put_item}
use Rattle.sd_frames.proofs.CpuWords as C
use Rattle.sd_frames.proofs.FieldWords as F
use Rattle.sd_invariants.proofs.OpenLemmas.{place_part, place_marks, drop_places, SamePlaces, cpus_same, open_field, finish_open, open_same, other_place}
use Rattle.sd_invariants.proofs.Whole.{reached_whole}
use Rattle.sd_invariants.specs.There.{IsSetThere, SetsAreOpen}
use Rattle.sd_invariants.proofs.Induction.{held_reached}
use Rattle.sd_invariants.proofs.Named.{acts_named, assign_set}

-- Open lists.

-- an open list is where it is written, or as it was
pub open_written : (s : State) (p : ℕ) (cpus : List CpuId) (q : ℕ) → q < length s.open_cpus → ((q ≡ p) × (open_of (with_open s p cpus) q ≡ cpus)) ⊎ ((q ≢ p) × (open_of (with_open s p cpus) q ≡ open_of s q))
open_written s p cpus q inside = elim (cases_eq q p) [
  | inl is ↦
      let here : p < length s.open_cpus = omega (arith, inside, is) in
      inl (is, ap (λ i. (get_or (set s.open_cpus p (record { items = cpus })) i no_cpus).items) is ∙ ap (λ (x : ArrayVec CpuId). x.items) (get_or-set_same s.open_cpus p (record { items = cpus }) no_cpus here))
  | inr other ↦ inr (other, ap (λ (x : ArrayVec CpuId). x.items) (get_or-set_other s.open_cpus p q (record { items = cpus }) no_cpus other))
]

-- of a rising list at most one item goes
none_without : (n : ℕ) (c : CpuId) (xs : List CpuId) → c.0 < n → IsRising n xs → length (without_cpu c xs) ≡ length xs
none_without n c [] less rises = refl
none_without n c (x ∷ xs) less (least, rises) = by (x.0 == c.0) refl (none_without (x.0 + 1) c xs (omega (arith, less, least)) rises)
  where
    by : (b : Bool) → (x.0 == c.0) ≡ b → length (without_cpu c xs) ≡ length xs → length (if not b then (x ∷ without_cpu c xs) else without_cpu c xs) ≡ suc (length xs)
    by true is rest = absurd (let same : x.0 ≡ c.0 = grind (arith, nat_tests) in omega (arith, same, less, least))
    by false is rest = ap suc rest

one_without : (n : ℕ) (c : CpuId) (xs : List CpuId) → IsRising n xs → length xs ≤ length (without_cpu c xs) + 1
one_without n c [] rises = omega arith
one_without n c (x ∷ xs) (least, rises) = by (x.0 == c.0) refl (one_without (x.0 + 1) c xs rises)
  where
    by : (b : Bool) → (x.0 == c.0) ≡ b → length xs ≤ length (without_cpu c xs) + 1 → suc (length xs) ≤ length (if not b then (x ∷ without_cpu c xs) else without_cpu c xs) + 1
    by true is rest =
        let same : x.0 ≡ c.0 = grind (arith, nat_tests) in
        let all = none_without (x.0 + 1) c xs (omega (arith, same)) rises in
        omega (arith, all)
    by false is rest = omega (arith, rest)

with_some : (c : CpuId) (xs : List CpuId) → 0 < length (with_cpu_in c xs)
with_some c [] = omega arith
with_some c (x ∷ xs) = elim (nat_lt c.0 x.0) as (λ b. 0 < length (if b then (c ∷ (x ∷ xs)) else (x ∷ with_cpu_in c xs))) [ true ↦ omega arith | false ↦ omega arith ]

granted_assignment : (w : Work) (s : State) (t : ℕ) (d : CpuId) (to : SetId) → assign.Changed ≡ assign_answer w s t d to → (length (open_of s (cpu_of s d.0).set.0) == 1) ≡ false
unfolding assign_answer
granted_assignment w s t d to e = by (not (is_privileged w t)) ((cpu_of s d.0).set.0 == to.0) (is_some (cpu_of s d.0).closing) (length (open_of s (cpu_of s d.0).set.0) == 1) (nat_lt 0 (cpu_of s d.0).bound) e
  where
    by : (a b c one n : Bool) → assign.Changed ≡ (if a then assign.EPERM else if b then assign.EINVAL else if (c || one || n) then assign.EBUSY else assign.Changed) → one ≡ false
    by true b c one n e = cc
    by false true c one n e = cc
    by false false true one n e = cc
    by false false false true n e = cc
    by false false false false n e = refl

closed_open : (w : Work) (s : State) (d : CpuId) (to : SetId) → length s.open_cpus ≡ length w.sets + 1 → ((p : ℕ) → IsRising 0 (open_of s p)) → (length (open_of s (cpu_of s d.0).set.0) == 1) ≡ false → SetsAreOpen w s → SetsAreOpen w (close s d to)
unfolding close
closed_open w s d to sets rises many some p there = by (open_written s p0 left p inside)
  where
    p0 : ℕ
    p0 = (cpu_of s d.0).set.0

    left : List CpuId
    left = without_cpu d (open_of s p0)

    inside : p < length s.open_cpus
    inside = omega (arith, there, sets)

    by : ((p ≡ p0) × (open_of (with_open s p0 left) p ≡ left)) ⊎ ((p ≢ p0) × (open_of (with_open s p0 left) p ≡ open_of s p)) → 0 < length (open_of (with_open s p0 left) p)
    by (inl (is, wrote)) =
        let old : 0 < length (open_of s p0) = subst (λ i. 0 < length (open_of s i)) is (some p there) in
        let less = one_without 0 d (open_of s p0) (rises p0) in
        let two : length (open_of s p0) ≢ 1 = eqb-false (length (open_of s p0)) 1 many in
        subst (λ (xs : List CpuId). 0 < length xs) (sym wrote) (omega (arith, old, less, two))
    by (inr (other, same)) = subst (λ (xs : List CpuId). 0 < length xs) (sym same) (some p there)

joined_open : (w : Work) (s : State) (c : CpuId) (to : SetId) → length s.open_cpus ≡ length w.sets + 1 → SetsAreOpen w s → SetsAreOpen w (join s c to)
unfolding join
joined_open w s c to sets some p there = by (open_written s to.0 (with_cpu_in c (open_of s to.0)) p (omega (arith, there, sets)))
  where
    by : ((p ≡ to.0) × (open_of (with_open s to.0 (with_cpu_in c (open_of s to.0))) p ≡ with_cpu_in c (open_of s to.0))) ⊎ ((p ≢ to.0) × (open_of (with_open s to.0 (with_cpu_in c (open_of s to.0))) p ≡ open_of s p))
        → 0 < length (open_of (with_open s to.0 (with_cpu_in c (open_of s to.0))) p)
    by (inl (is, wrote)) = subst (λ (xs : List CpuId). 0 < length xs) (sym wrote) (with_some c (open_of s to.0))
    by (inr (other, same)) = subst (λ (xs : List CpuId). 0 < length xs) (sym same) (some p there)

-- open lists that are as they were
same_open : (w : Work) (s r : State) → r.open_cpus ≡ s.open_cpus → SetsAreOpen w s → SetsAreOpen w r
same_open w s r same some p there = subst (λ (xs : List (ArrayVec CpuId)). 0 < length (get_or xs p no_cpus).items) (sym same) (some p there)

changed_open : (w : Work) (s : State) (t : ℕ) (d : CpuId) (to : SetId) → (assigned w s t d to assign.Changed).open_cpus ≡ (close s d to).open_cpus
unfolding assigned
changed_open w s t d to = finish_open w (cleared (close s d to) d (runner s d.0)) t ∙ (F.cleared_kept open_field (λ s t x. refl) (λ s c x. refl) (close s d to) d (runner s d.0)).same

refused_open : (w : Work) (s : State) (t : ℕ) (d : CpuId) (to : SetId) (answer : AssignAnswer) → answer ≢ assign.Changed → (assigned w s t d to answer).open_cpus ≡ s.open_cpus
unfolding assigned
refused_open w s t d to assign.Changed unlike = absurd (unlike refl)
refused_open w s t d to assign.EPERM unlike = finish_open w s t
refused_open w s t d to assign.EINVAL unlike = finish_open w s t
refused_open w s t d to assign.EBUSY unlike = finish_open w s t

assigned_open : (w : Work) (s : State) (t : ℕ) (d : CpuId) (to : SetId) (answer : AssignAnswer) → length s.open_cpus ≡ length w.sets + 1 → ((p : ℕ) → IsRising 0 (open_of s p)) → (answer ≡ assign.Changed → (length (open_of s (cpu_of s d.0).set.0) == 1) ≡ false) → SetsAreOpen w s → SetsAreOpen w (assigned w s t d to answer)
assigned_open w s t d to assign.Changed sets rises many some = same_open w (close s d to) (assigned w s t d to assign.Changed) (changed_open w s t d to) (closed_open w s d to sets rises (many refl) some)
assigned_open w s t d to assign.EPERM sets rises many some = same_open w s (assigned w s t d to assign.EPERM) (refused_open w s t d to assign.EPERM (λ e. cc)) some
assigned_open w s t d to assign.EINVAL sets rises many some = same_open w s (assigned w s t d to assign.EINVAL) (refused_open w s t d to assign.EINVAL (λ e. cc)) some
assigned_open w s t d to assign.EBUSY sets rises many some = same_open w s (assigned w s t d to assign.EBUSY) (refused_open w s t d to assign.EBUSY (λ e. cc)) some

-- A dropped ageing leaves open lists and sets.

drop_open : (s : State) (c : ℕ) (e : Event) → (drop_ageing s c e).open_cpus ≡ s.open_cpus
unfolding drop_ageing set_duty
drop_open s c e = refl

drop_alone : (s : State) (c : ℕ) (e : Event) (d : CpuId) → (length (open_of s (cpu_of s d.0).set.0) == 1) ≡ false → (length (open_of (drop_ageing s c e) (cpu_of (drop_ageing s c e) d.0).set.0) == 1) ≡ false
drop_alone s c e d many =
    let set_is : (cpu_of (drop_ageing s c e) d.0).set ≡ (cpu_of s d.0).set = ap (λ (x : SetId × Option SetId). x.0) ((drop_places s c e).each d.0) in
    subst (λ (p : SetId). (length (open_of (drop_ageing s c e) p.0) == 1) ≡ false) (sym set_is)
    (subst (λ (xs : List (ArrayVec CpuId)). (length (get_or xs (cpu_of s d.0).set.0 no_cpus).items == 1) ≡ false) (sym (drop_open s c e)) many)

drop_rises : (s : State) (c : ℕ) (e : Event) → ((p : ℕ) → IsRising 0 (open_of s p)) → (p : ℕ) → IsRising 0 (open_of (drop_ageing s c e) p)
drop_rises s c e rises p = subst (λ (xs : List (ArrayVec CpuId)). IsRising 0 (get_or xs p no_cpus).items) (sym (drop_open s c e)) (rises p)

drop_sets : (w : Work) (s : State) (c : ℕ) (e : Event) → FitsFully w s → length (drop_ageing s c e).open_cpus ≡ length w.sets + 1
drop_sets w s c e fits = ap (λ (xs : List (ArrayVec CpuId)). length xs) (drop_open s c e) ∙ fits.sets

joins : (w : Work) (s : State) (c : CpuId) (to : SetId) → length s.open_cpus ≡ length w.sets + 1 → SetsAreOpen w s → SetsAreOpen w (joined s c to)
unfolding joined
joins w s c to sets some = joined_open w s c to sets some

sets_kept : (w : Work) (s : State) (n : ℕ) (c : CpuId) (e : Event) → FitsFully w s → OpenHold w s → IsCause w s c.0 e → SetsAreOpen w s → SetsAreOpen w (after w s n c e)
unfolding after effect
sets_kept w s n c (Assign t d to answer) fits holds cause some =
    assigned_open w (drop_ageing s c.0 (Assign t d to answer)) t.0 d to answer (drop_sets w s c.0 (Assign t d to answer) fits) (drop_rises s c.0 (Assign t d to answer) holds.rising)
    (λ is. drop_alone s c.0 (Assign t d to answer) d (granted_assignment w s t.0 d to (sym is ∙ cause.1))) (same_open w s (drop_ageing s c.0 (Assign t d to answer)) (drop_open s c.0 (Assign t d to answer)) some)
sets_kept w s n c (Joined to) fits holds cause some =
    joins w (drop_ageing s c.0 (Joined to)) c to (drop_sets w s c.0 (Joined to) fits) (same_open w s (drop_ageing s c.0 (Joined to)) (drop_open s c.0 (Joined to)) some)
sets_kept w s n c e fits holds cause some = same_open w s (after w s n c e) (open_same w s n c e refl) some

opening_sets : (w : Work) → SetsAreOpen w (opening w)
unfolding opening
opening_sets w p there =
    let is : open_of (opening w) p ≡ cpus_of_set w p = ap (λ (x : ArrayVec CpuId). x.items) (get_or-map-range_with_len (open_list w) 0 (length w.sets + 1) p p no_cpus (omega (arith, there)) (omega arith)) in
    subst (λ (xs : List CpuId). 0 < length xs) (sym is) (some_cpu w p there)

pub sets_are_open : HoldsWhenReached SetsAreOpen
sets_are_open = held_reached SetsAreOpen (record {
  start = opening_sets;
  step = λ w s n c e reached here cause some. let whole = reached_whole w n s reached in sets_kept w s n c e whole.ready.fits whole.opened cause some;
})

-- The sets of processors.

abbrev pub IsPlacedThere : Work → SetId × Option SetId → Type 0
IsPlacedThere w x = IsSetThere w x.0 × IfSome x.1 (IsSetThere w)

abbrev pub SetsAreThere : Work → State → Type 0
SetsAreThere w s = (c : ℕ) → IsPlacedThere w (place_part (cpu_of s c))

same_sets : (w : Work) (s r : State) → SamePlaces s r → SetsAreThere w s → SetsAreThere w r
same_sets w s r same there c = subst (λ x. IsPlacedThere w x) (sym (same.each c)) (there c)

written_sets : (w : Work) (s : State) (c : ℕ) (x : CpuState) → IsPlacedThere w (place_part x) → SetsAreThere w s → SetsAreThere w (with_cpu s c x)
written_sets w s c x is there d = elim (cases_eq d c) [
  | inl same ↦ elim (cases_lt c (length s.cpus)) [
    | inl here ↦ subst (λ i. IsPlacedThere w (place_part (cpu_of (with_cpu s c x) i))) (sym same) (subst (λ y. IsPlacedThere w y) (sym (put_item place_part s.cpus no_cpu c x here).at) is)
    | inr past ↦ subst (λ (xs : List CpuState). IsPlacedThere w (place_part (get_or xs d no_cpu))) (sym (set_past s.cpus c x past)) (there d)
  ]
  | inr other ↦ subst (λ y. IsPlacedThere w y) (sym (other_place s c x d other)) (there d)
]

closed_sets : (w : Work) (s : State) (d : CpuId) (to : SetId) → to.0 ≤ length w.sets → SetsAreThere w s → SetsAreThere w (close s d to)
unfolding close
closed_sets w s d to is there =
    written_sets w (with_open s (cpu_of s d.0).set.0 (without_cpu d (open_of s (cpu_of s d.0).set.0))) d.0 (record (cpu_of s d.0) { closing = Some to }) ((there d.0).0, is) there

joined_sets : (w : Work) (s : State) (c : CpuId) (to : SetId) → to.0 ≤ length w.sets → SetsAreThere w s → SetsAreThere w (joined s c to)
unfolding joined join
joined_sets w s c to is there = written_sets w (with_open s to.0 (with_cpu_in c (open_of s to.0))) c.0 (record (cpu_of s c.0) { set = to; closing = None }) (is, tt) there

assigned_sets : (w : Work) (s : State) (t : ℕ) (d : CpuId) (to : SetId) (answer : AssignAnswer) → to.0 ≤ length w.sets → SetsAreThere w s → SetsAreThere w (assigned w s t d to answer)
unfolding assigned
assigned_sets w s t d to assign.Changed is there =
    same_sets w (close s d to) _ (C.then_kept place_part (close s d to) (cleared (close s d to) d (runner s d.0)) _ (C.cleared_kept place_part place_marks (close s d to) d (runner s d.0)) (C.finish_op_kept place_part place_marks w _ t))
    (closed_sets w s d to is there)
assigned_sets w s t d to assign.EPERM is there = same_sets w s _ (C.finish_op_kept place_part place_marks w s t) there
assigned_sets w s t d to assign.EINVAL is there = same_sets w s _ (C.finish_op_kept place_part place_marks w s t) there
assigned_sets w s t d to assign.EBUSY is there = same_sets w s _ (C.finish_op_kept place_part place_marks w s t) there

places_kept : (w : Work) (s : State) (n : ℕ) (c : CpuId) (e : Event) → IsCause w s c.0 e → SetsAreThere w s → SetsAreThere w (after w s n c e)
unfolding after effect
places_kept w s n c (Assign t d to answer) cause there =
    assigned_sets w (drop_ageing s c.0 (Assign t d to answer)) t.0 d to answer (assign_set w d to (acts_named w s c.0 t.0 (op.Assign d to) cause.0)) (same_sets w s _ (drop_places s c.0 (Assign t d to answer)) there)
places_kept w s n c (Joined to) cause there =
    joined_sets w (drop_ageing s c.0 (Joined to)) c to (subst (λ o. IfSome o (IsSetThere w)) cause.1 (there c.0).1) (same_sets w s _ (drop_places s c.0 (Joined to)) there)
places_kept w s n c e cause there = same_sets w s (after w s n c e) (cpus_same w s n c e refl) there

first_sets : (w : Work) (xs : List ℕ) (c : ℕ) → IsPlacedThere w (place_part (get_or (map (first_cpu_state w) xs) c no_cpu))
unfolding first_cpu_state
first_sets w [] c = (omega arith, tt)
first_sets w (x ∷ xs) zero = (set-at_most w x, tt)
first_sets w (x ∷ xs) (suc c) = first_sets w xs c

opening_places : (w : Work) → SetsAreThere w (opening w)
unfolding opening
opening_places w c = first_sets w (range_with_len 0 w.cpus) c

pub sets_are_there : HoldsWhenReached SetsAreThere
sets_are_there = held_reached SetsAreThere (record { start = opening_places; step = λ w s n c e reached here cause there. places_kept w s n c e cause there })
