-- The open processors of a set rise, are of that set, and are not closing.
use Rattle.std.proofs.Common.{◌≡◌, ◌≢◌, ℕ, ◌+◌, ◌-◌, ◌<◌, Bool, true, false, ◌||◌, List, length, set, Option, Some, None, refl, ◌∙◌, sym, ap, subst, arith}
use Rattle.arrayvec.specs.ArrayVec.{ArrayVec}
use Rattle.sd_frames.proofs.Parts.{put_item}
use Rattle.sd_frames.proofs.FieldWords as F
use Rattle.sd_frames.proofs.CpuWords as C
use Rattle.sd_types.specs.declared.numbers.ChanId.{ChanId}
use Rattle.sd_types.specs.declared.numbers.CpuId.{CpuId}
use Rattle.sd_types.specs.declared.numbers.SetId.{SetId}
use Rattle.sd_types.specs.declared.events.AssignAnswer.{AssignAnswer}
use Rattle.sd_types.specs.declared.events.AssignAnswer.TheVariants as assign
use Rattle.sd_types.specs.declared.events.Event.{Event}
use Rattle.sd_types.specs.declared.events.Event.TheVariants.{SemaP, SemaVCount, Assign, Joined}
use Rattle.sd_types.specs.declared.works.Work.{Work}
use Rattle.std.specs.Prelude.{if◌then◌else◌, nat_lt, ◌==◌, not}
use Rattle.sd_state.specs.declared.states.CpuState.{CpuState}
use Rattle.sd_state.specs.declared.states.State.{State}
use Rattle.sd_state.specs.States.{no_cpu, cpu_of}
use Rattle.sd_machine.specs.Threads.{count_of, with_count, runner}
use Rattle.sd_machine.specs.Changes.{finish_op, set_duty, close, join}
use Rattle.sd_machine.specs.Conditions.{sema_taken, sema_counted}
use Rattle.sd_machine.specs.SetChanges.{cleared, assigned, joined}
use Rattle.sd_machine.specs.Events.{drop_ageing, effect, after}
use Rattle.sd_frames.specs.Causes.{IsCause}
use Rattle.sd_invariants.specs.Laws.{OpenHold, is_in, IsRising}
use Rattle.sd_frames.proofs.Made.{Kind, Closed, Joins, Dutied}
use Rattle.sd_frames.proofs.SideFields.{after_keeps}
use Rattle.std.proofs.Common.{get_or, ◌≤◌, inl, inr, ◌⊎◌, zero, suc, [], ◌∷◌, ◌||◌}
use Rattle.std.specs.Prelude.{map, filter}
use Rattle.std.specs.List.{range_with_len}
use Rattle.std.proofs.lemmas.Bool.{cases_eq, cases_lt, false≢true, eqb-true, eq-eqb, or_right}
use Rattle.std.proofs.lemmas.Bool.Decides.{nat_tests}
use Rattle.std.proofs.lemmas.List.{get_or_past, get_or-set_same, get_or-set_other}
use Rattle.std.proofs.lemmas.List.FromFn.{get_or-map-range_with_len, length-map-range_with_len}
use Rattle.std.proofs.lemmas.List.{set_past}
use Rattle.sd_types.specs.Partitions.{set_of_cpu, cpu_of_number, cpus_of_set}
use Rattle.sd_state.specs.Opening.{first_cpu_state, open_list, opening}
use Rattle.sd_machine.specs.Threads.{no_cpus, open_of, with_open}
use Rattle.sd_machine.specs.Changes.{with_cpu_in, without_cpu}
use Rattle.sd_state.specs.States.{with_cpu}
use Rattle.sd_invariants.proofs.AgreedAfter.{IsReady}
use Rattle.sd_invariants.proofs.Ready.{IsKept}

-- Lists of processors.

pub in_later : (c : ℕ) (d : CpuId) (ds : List CpuId) → is_in c (d ∷ ds) ≡ true → (d.0 ≡ c) ⊎ (is_in c ds ≡ true)
in_later c d ds e = by (d.0 == c) refl e
  where
    by : (b : Bool) → (d.0 == c) ≡ b → (b || is_in c ds) ≡ true → (d.0 ≡ c) ⊎ (is_in c ds ≡ true)
    by true is e = inl (eqb-true d.0 c is)
    by false is e = inr e

not_here : (c : ℕ) (d : CpuId) (ds : List CpuId) → is_in c (d ∷ ds) ≡ false → (d.0 ≢ c) × (is_in c ds ≡ false)
not_here c d ds e = by (d.0 == c) refl e
  where
    by : (b : Bool) → (d.0 == c) ≡ b → (b || is_in c ds) ≡ false → (d.0 ≢ c) × (is_in c ds ≡ false)
    by true is e = cc
    by false is e = ((λ same. false≢true (sym is ∙ self same)), e)
      where
        self : d.0 ≡ c → (d.0 == c) ≡ true
        self same = grind (arith, nat_tests)

pub rising_less : (n m : ℕ) (xs : List CpuId) → n ≤ m → IsRising m xs → IsRising n xs
rising_less n m [] le r = tt
rising_less n m (x ∷ xs) le (a, r) = (omega (arith, le, a), r)

rising_without : (n : ℕ) (c : CpuId) (xs : List CpuId) → IsRising n xs → IsRising n (without_cpu c xs)
rising_without n c [] r = tt
rising_without n c (x ∷ xs) (a, r) = by (x.0 == c.0) (rising_without (x.0 + 1) c xs r)
  where
    by : (b : Bool) → IsRising (x.0 + 1) (without_cpu c xs) → IsRising n (if not b then (x ∷ without_cpu c xs) else without_cpu c xs)
    by true rest = rising_less n (x.0 + 1) (without_cpu c xs) (omega (arith, a)) rest
    by false rest = (a, rest)

rising_with : (n : ℕ) (c : CpuId) (xs : List CpuId) → n ≤ c.0 → IsRising n xs → is_in c.0 xs ≡ false → IsRising n (with_cpu_in c xs)
rising_with n c [] le r out = (le, tt)
rising_with n c (x ∷ xs) le (a, r) out = by (nat_lt c.0 x.0) refl (λ more. rising_with (x.0 + 1) c xs more r (not_here c.0 x xs out).1)
  where
    other : x.0 ≢ c.0
    other = (not_here c.0 x xs out).0

    by : (b : Bool) → nat_lt c.0 x.0 ≡ b → (x.0 + 1 ≤ c.0 → IsRising (x.0 + 1) (with_cpu_in c xs)) → IsRising n (if b then (c ∷ (x ∷ xs)) else (x ∷ with_cpu_in c xs))
    by true is more = (le, ((let less : c.0 < x.0 = grind (arith, nat_tests) in omega (arith, less)), r))
    by false is more = (a, more (let up : x.0 ≤ c.0 = grind (arith, nat_tests) in past up))
      where
        past : x.0 ≤ c.0 → x.0 + 1 ≤ c.0
        past up = elim (cases_eq x.0 c.0) [ inl same ↦ absurd (other same) | inr apart ↦ omega (arith, up, apart) ]

in_without : (x : ℕ) (c : CpuId) (xs : List CpuId) → is_in x (without_cpu c xs) ≡ true → (x ≢ c.0) × (is_in x xs ≡ true)
in_without x c [] e = cc
in_without x c (y ∷ ys) e = by (y.0 == c.0) refl (λ f. in_without x c ys f) e
  where
    by : (b : Bool) → (y.0 == c.0) ≡ b → (is_in x (without_cpu c ys) ≡ true → (x ≢ c.0) × (is_in x ys ≡ true)) → is_in x (if not b then (y ∷ without_cpu c ys) else without_cpu c ys) ≡ true → (x ≢ c.0) × (is_in x (y ∷ ys) ≡ true)
    by true is more e = let (a, d) = more e in (a, or_right (y.0 == x) _ d)
    by false is more e = elim (in_later x y (without_cpu c ys) e) [
      | inl here ↦ ((λ same. false≢true (sym is ∙ eq-eqb y.0 c.0 (here ∙ same))), rw (eq-eqb y.0 x here) refl)
      | inr rest ↦ let (a, d) = more rest in (a, or_right (y.0 == x) _ d)
    ]

in_with : (x : ℕ) (c : CpuId) (xs : List CpuId) → is_in x (with_cpu_in c xs) ≡ true → (x ≡ c.0) ⊎ (is_in x xs ≡ true)
in_with x c [] e = elim (in_later x c [] e) [ inl here ↦ inl (sym here) | inr rest ↦ absurd (false≢true rest) ]
in_with x c (y ∷ ys) e = by (nat_lt c.0 y.0) (λ f. in_with x c ys f) e
  where
    by : (b : Bool) → (is_in x (with_cpu_in c ys) ≡ true → (x ≡ c.0) ⊎ (is_in x ys ≡ true)) → is_in x (if b then (c ∷ (y ∷ ys)) else (y ∷ with_cpu_in c ys)) ≡ true → (x ≡ c.0) ⊎ (is_in x (y ∷ ys) ≡ true)
    by true more e = elim (in_later x c (y ∷ ys) e) [ inl here ↦ inl (sym here) | inr rest ↦ inr rest ]
    by false more e = elim (in_later x y (with_cpu_in c ys) e) [
      | inl here ↦ inr (rw (eq-eqb y.0 x here) refl)
      | inr rest ↦ elim (more rest) [ inl a ↦ inl a | inr d ↦ inr (or_right (y.0 == x) _ d) ]
    ]

-- a rising list of numbers below m has no more than m of them
pub rising_many : (n m : ℕ) (xs : List CpuId) → n ≤ m → IsRising n xs → ((c : ℕ) → is_in c xs ≡ true → c < m) → length xs + n ≤ m
rising_many n m [] le r below = omega (arith, le)
rising_many n m (x ∷ xs) le (a, r) below =
    let here : x.0 < m = below x.0 (rw (eq-eqb x.0 x.0 refl) refl) in
    let rest : length xs + (x.0 + 1) ≤ m = rising_many (x.0 + 1) m xs (omega (arith, here)) r (λ c e. below c (or_right (x.0 == c) _ e)) in
    omega (arith, rest, a)

with_length : (c : CpuId) (xs : List CpuId) → length (with_cpu_in c xs) ≡ length xs + 1
with_length c [] = refl
with_length c (x ∷ xs) = by (nat_lt c.0 x.0) (with_length c xs)
  where
    by : (b : Bool) → length (with_cpu_in c xs) ≡ length xs + 1 → length (if b then (c ∷ (x ∷ xs)) else (x ∷ with_cpu_in c xs)) ≡ length (x ∷ xs) + 1
    by true e = omega arith
    by false e = omega (arith, e)

-- Sets and closing.

abbrev pub place_part : CpuState → SetId × Option SetId
place_part x = (x.set, x.closing)

pub place_marks : C.Markless place_part
place_marks = record { marks = λ x u k. refl }

abbrev leaves_place : Kind → Bool
leaves_place Closed = false
leaves_place Joins = false
leaves_place _ = true

place_left : (k : Kind) → leaves_place k ≡ true → C.Leaves place_part k
place_left Closed is = cc
place_left Joins is = cc
place_left _ is = λ x y. refl

abbrev pub SamePlaces : State → State → Type 0
SamePlaces s r = C.Kept place_part s r

then_places : (s r q : State) → SamePlaces s r → SamePlaces r q → SamePlaces s q
then_places s r q a b = C.then_kept place_part s r q a b

-- no change of the sets
abbrev pub is_setless : Event → Bool
is_setless (Assign t d to answer) = false
is_setless (Joined to) = false
is_setless _ = true

pub cpus_same : (w : Work) (s : State) (n : ℕ) (c : CpuId) (e : Event) → is_setless e ≡ true → SamePlaces s (after w s n c e)
cpus_same w s n c (Assign t d to answer) quiet = cc
cpus_same w s n c (Joined to) quiet = cc
cpus_same w s n c e quiet = C.after_left place_part leaves_place place_left w refl s n c e refl

pub drop_places : (s : State) (c : ℕ) (e : Event) → SamePlaces s (drop_ageing s c e)
drop_places s c e = C.drop_left place_part (place_left Dutied refl) s c e

-- Open lists.

abbrev pub open_field : State → List (ArrayVec CpuId)
open_field s = s.open_cpus

pub finish_open : (w : Work) (s : State) (t : ℕ) → (finish_op w s t).open_cpus ≡ s.open_cpus
unfolding finish_op
finish_open w s t = refl

taken_open : (w : Work) (s : State) (t : ℕ) (k : ChanId) → (sema_taken w s t k).open_cpus ≡ s.open_cpus
unfolding sema_taken
taken_open w s t k = finish_open w (with_count s k.0 (count_of s k.0 - 1)) t

counted_open : (w : Work) (s : State) (t : ℕ) (k : ChanId) → (sema_counted w s t k).open_cpus ≡ s.open_cpus
unfolding sema_counted
counted_open w s t k = finish_open w (with_count s k.0 (count_of s k.0 + 1)) t

pub open_same : (w : Work) (s : State) (n : ℕ) (c : CpuId) (e : Event) → is_setless e ≡ true → (after w s n c e).open_cpus ≡ s.open_cpus
unfolding after effect drop_ageing set_duty
open_same w s n c (SemaP t k) quiet = taken_open w (drop_ageing s c.0 (SemaP t k)) t.0 k
open_same w s n c (SemaVCount t k m) quiet = counted_open w (drop_ageing s c.0 (SemaVCount t k m)) t.0 k
open_same w s n c (Assign t d to answer) quiet = cc
open_same w s n c (Joined to) quiet = cc
open_same w s n c e quiet = (after_keeps open_field (λ s t x. refl) (λ s c x. refl) (λ s l x. refl) w s n c e refl).same

-- What holds of open lists looks at them, at sets and at closing alone.
same_hold : (w : Work) (s r : State) → SamePlaces s r → r.open_cpus ≡ s.open_cpus → OpenHold w s → OpenHold w r
same_hold w s r places lists holds = record {
  member = λ p c e.
      let (inside, its_set, stays_open) = holds.member p c (subst (λ (xs : List (ArrayVec CpuId)). is_in c (get_or xs p no_cpus).items ≡ true) lists e) in
      (inside, ap (λ (x : SetId × Option SetId). x.0.0) (places.each c) ∙ its_set, ap (λ (x : SetId × Option SetId). x.1) (places.each c) ∙ stays_open);
  rising = λ p. subst (λ (xs : List (ArrayVec CpuId)). IsRising 0 (get_or xs p no_cpus).items) (sym lists) (holds.rising p);
}

-- an open list is where it is written, or as it was; where there is none to write it is empty
wrote_list : (s : State) (p : ℕ) (cpus : List CpuId) (q : ℕ) → ((q ≡ p) × (open_of (with_open s p cpus) q ≡ cpus)) ⊎ ((q ≢ p) × (open_of (with_open s p cpus) q ≡ open_of s q)) ⊎ (open_of (with_open s p cpus) q ≡ [])
wrote_list s p cpus q = elim (cases_lt p (length s.open_cpus)) [
  | inl here ↦ elim (cases_eq q p) [
    | inl is ↦ inl (is, ap (λ i. (get_or (set s.open_cpus p (record { items = cpus })) i no_cpus).items) is ∙ ap (λ (x : ArrayVec CpuId). x.items) (get_or-set_same s.open_cpus p (record { items = cpus }) no_cpus here))
    | inr other ↦ inr (inl (other, ap (λ (x : ArrayVec CpuId). x.items) (get_or-set_other s.open_cpus p q (record { items = cpus }) no_cpus other)))
  ]
  | inr past ↦ elim (cases_eq q p) [
    | inl is ↦ inr (inr (ap (λ (xs : List (ArrayVec CpuId)). (get_or xs q no_cpus).items) (set_past s.open_cpus p (record { items = cpus }) past) ∙ empty s.open_cpus q (subst (λ i. length s.open_cpus ≤ i) (sym is) past)))
    | inr other ↦ inr (inl (other, ap (λ (xs : List (ArrayVec CpuId)). (get_or xs q no_cpus).items) (set_past s.open_cpus p (record { items = cpus }) past)))
  ]
]
  where
    empty : (xs : List (ArrayVec CpuId)) (i : ℕ) → length xs ≤ i → (get_or xs i no_cpus).items ≡ []
    empty [] i h = refl
    empty (x ∷ xs) zero h = absurd (omega arith)
    empty (x ∷ xs) (suc i) h = empty xs i (omega arith)

-- another processor's part is as it was
pub other_place : (s : State) (c : ℕ) (x : CpuState) (d : ℕ) → d ≢ c → place_part (cpu_of (with_cpu s c x) d) ≡ place_part (cpu_of s d)
other_place s c x d other = elim (cases_lt c (length s.cpus)) [
  | inl here ↦ (put_item place_part s.cpus no_cpu c x here).others d other
  | inr past ↦ ap (λ (xs : List CpuState). place_part (get_or xs d no_cpu)) (set_past s.cpus c x past)
]

member_moved : (w : Work) (s r : State) (p c : ℕ) → OpenHold w s → is_in c (open_of s p) ≡ true → place_part (cpu_of r c) ≡ place_part (cpu_of s c) → (c < w.cpus) × ((cpu_of r c).set.0 ≡ p) × ((cpu_of r c).closing ≡ None)
member_moved w s r p c holds e same =
    let (inside, its_set, stays_open) = holds.member p c e in
    (inside, ap (λ (x : SetId × Option SetId). x.0.0) same ∙ its_set, ap (λ (x : SetId × Option SetId). x.1) same ∙ stays_open)

close_hold : (w : Work) (s : State) (d : CpuId) (to : SetId) → OpenHold w s → OpenHold w (close s d to)
unfolding close
close_hold w s d to holds = record { member = member; rising = rising }
  where
    p0 : ℕ
    p0 = (cpu_of s d.0).set.0

    left : List CpuId
    left = without_cpu d (open_of s p0)

    wrote : State
    wrote = with_open s p0 left

    x : CpuState
    x = record (cpu_of s d.0) { closing = Some to }

    apart : (p c : ℕ) → is_in c (open_of s p) ≡ true → c ≢ d.0 → (c < w.cpus) × ((cpu_of (with_cpu wrote d.0 x) c).set.0 ≡ p) × ((cpu_of (with_cpu wrote d.0 x) c).closing ≡ None)
    apart p c e other = member_moved w s (with_cpu wrote d.0 x) p c holds e (other_place wrote d.0 x c other)

    member : (p c : ℕ) → is_in c (open_of (with_cpu wrote d.0 x) p) ≡ true → (c < w.cpus) × ((cpu_of (with_cpu wrote d.0 x) c).set.0 ≡ p) × ((cpu_of (with_cpu wrote d.0 x) c).closing ≡ None)
    member p c e = elim (wrote_list s p0 left p) [
      | inl here ↦ let (other, was) = in_without c d (open_of s p0) (subst (λ xs. is_in c xs ≡ true) here.1 e) in apart p c (subst (λ i. is_in c (open_of s i) ≡ true) (sym here.0) was) other
      | inr (inl there) ↦
          let was : is_in c (open_of s p) ≡ true = subst (λ xs. is_in c xs ≡ true) there.1 e in
          apart p c was (λ same. there.0 (sym (holds.member p c was).1 ∙ ap (λ i. (cpu_of s i).set.0) same))
      | inr (inr none) ↦ absurd (false≢true (subst (λ xs. is_in c xs ≡ true) none e))
    ]

    rising : (p : ℕ) → IsRising 0 (open_of (with_cpu wrote d.0 x) p)
    rising p = elim (wrote_list s p0 left p) [
      | inl here ↦ subst (λ xs. IsRising 0 xs) (sym here.1) (rising_without 0 d (open_of s p0) (holds.rising p0))
      | inr (inl there) ↦ subst (λ xs. IsRising 0 xs) (sym there.1) (holds.rising p)
      | inr (inr none) ↦ subst (λ xs. IsRising 0 xs) (sym none) tt
    ]

-- a closing processor is there, and in no open list
pub closing_inside : (s : State) (c : ℕ) (to : SetId) → (cpu_of s c).closing ≡ Some to → c < length s.cpus
closing_inside s c to e = elim (cases_lt c (length s.cpus)) [
  | inl here ↦ here
  | inr past ↦ absurd (none_some to (sym (gone s.cpus c past) ∙ e))
]
  where
    gone : (xs : List CpuState) (i : ℕ) → length xs ≤ i → (get_or xs i no_cpu).closing ≡ None
    gone [] i h = refl
    gone (x ∷ xs) zero h = absurd (omega arith)
    gone (x ∷ xs) (suc i) h = gone xs i (omega arith)

    none_some : (q : SetId) → None ≡ Some q → ⊥
    none_some q e = cc

closing_out : (w : Work) (s : State) (c : ℕ) (to : SetId) (p : ℕ) → OpenHold w s → (cpu_of s c).closing ≡ Some to → is_in c (open_of s p) ≡ false
closing_out w s c to p holds e = by (is_in c (open_of s p)) refl
  where
    none_some : None ≡ Some to → ⊥
    none_some e = cc

    by : (b : Bool) → is_in c (open_of s p) ≡ b → b ≡ false
    by false is = refl
    by true is = absurd (none_some (sym (holds.member p c is).2 ∙ e))

join_hold : (w : Work) (s : State) (c : CpuId) (to : SetId) → c.0 < w.cpus → (cpu_of s c.0).closing ≡ Some to → OpenHold w s → OpenHold w (join s c to)
unfolding join
join_hold w s c to c_in closes holds = record { member = member; rising = rising }
  where
    more : List CpuId
    more = with_cpu_in c (open_of s to.0)

    wrote : State
    wrote = with_open s to.0 more

    x : CpuState
    x = record (cpu_of s c.0) { set = to; closing = None }

    here_now : place_part (cpu_of (with_cpu wrote c.0 x) c.0) ≡ (to, None)
    here_now = (put_item place_part s.cpus no_cpu c.0 x (closing_inside s c.0 to closes)).at

    not_c : (p d : ℕ) → is_in d (open_of s p) ≡ true → d ≢ c.0
    not_c p d e same = false≢true (sym (closing_out w s c.0 to p holds closes) ∙ subst (λ i. is_in i (open_of s p) ≡ true) same e)

    apart : (p d : ℕ) → is_in d (open_of s p) ≡ true → (d < w.cpus) × ((cpu_of (with_cpu wrote c.0 x) d).set.0 ≡ p) × ((cpu_of (with_cpu wrote c.0 x) d).closing ≡ None)
    apart p d e = member_moved w s (with_cpu wrote c.0 x) p d holds e (other_place wrote c.0 x d (not_c p d e))

    joins : (p d : ℕ) → p ≡ to.0 → d ≡ c.0 → (d < w.cpus) × ((cpu_of (with_cpu wrote c.0 x) d).set.0 ≡ p) × ((cpu_of (with_cpu wrote c.0 x) d).closing ≡ None)
    joins p d at is = subst (λ i. (i < w.cpus) × ((cpu_of (with_cpu wrote c.0 x) i).set.0 ≡ p) × ((cpu_of (with_cpu wrote c.0 x) i).closing ≡ None)) (sym is)
        (c_in, ap (λ (y : SetId × Option SetId). y.0.0) here_now ∙ sym at, ap (λ (y : SetId × Option SetId). y.1) here_now)

    member : (p d : ℕ) → is_in d (open_of (with_cpu wrote c.0 x) p) ≡ true → (d < w.cpus) × ((cpu_of (with_cpu wrote c.0 x) d).set.0 ≡ p) × ((cpu_of (with_cpu wrote c.0 x) d).closing ≡ None)
    member p d e = elim (wrote_list s to.0 more p) [
      | inl here ↦ elim (in_with d c (open_of s to.0) (subst (λ xs. is_in d xs ≡ true) here.1 e)) [
        | inl is ↦ joins p d here.0 is
        | inr was ↦ apart p d (subst (λ i. is_in d (open_of s i) ≡ true) (sym here.0) was)
      ]
      | inr (inl there) ↦ apart p d (subst (λ xs. is_in d xs ≡ true) there.1 e)
      | inr (inr none) ↦ absurd (false≢true (subst (λ xs. is_in d xs ≡ true) none e))
    ]

    rising : (p : ℕ) → IsRising 0 (open_of (with_cpu wrote c.0 x) p)
    rising p = elim (wrote_list s to.0 more p) [
      | inl here ↦ subst (λ xs. IsRising 0 xs) (sym here.1) (rising_with 0 c (open_of s to.0) (omega arith) (holds.rising to.0) (closing_out w s c.0 to to.0 holds closes))
      | inr (inl there) ↦ subst (λ xs. IsRising 0 xs) (sym there.1) (holds.rising p)
      | inr (inr none) ↦ subst (λ xs. IsRising 0 xs) (sym none) tt
    ]

-- the open list that a processor joins has room
pub join_room : (w : Work) (s : State) (c : ℕ) (to : SetId) → c < w.cpus → (cpu_of s c).closing ≡ Some to → OpenHold w s → length (open_of s to.0) < 64
join_room w s c to c_in closes holds =
    let x : CpuId = record { 0 = c } in
    let all = rising_many 0 w.cpus (with_cpu_in x (open_of s to.0)) (omega arith) (rising_with 0 x (open_of s to.0) (omega arith) (holds.rising to.0) (closing_out w s c to to.0 holds closes))
    (λ d e. elim (in_with d x (open_of s to.0) e) [ inl is ↦ subst (λ i. i < w.cpus) (sym is) c_in | inr was ↦ (holds.member to.0 d was).0 ]) in
    let many = with_length x (open_of s to.0) in
    let most = w.most_cpus in
    omega (arith, all, many, most)

assigned_hold : (w : Work) (s : State) (t : ℕ) (d : CpuId) (to : SetId) (answer : AssignAnswer) → OpenHold w s → OpenHold w (assigned w s t d to answer)
unfolding assigned
assigned_hold w s t d to assign.Changed holds =
    same_hold w (close s d to) _ (then_places (close s d to) (cleared (close s d to) d (runner s d.0)) _ (C.cleared_kept place_part place_marks (close s d to) d (runner s d.0)) (C.finish_op_kept place_part place_marks w _ t))
    (finish_open w (cleared (close s d to) d (runner s d.0)) t ∙ (F.cleared_kept open_field (λ s t x. refl) (λ s c x. refl) (close s d to) d (runner s d.0)).same) (close_hold w s d to holds)
assigned_hold w s t d to assign.EPERM holds = same_hold w s _ (C.finish_op_kept place_part place_marks w s t) (finish_open w s t) holds
assigned_hold w s t d to assign.EINVAL holds = same_hold w s _ (C.finish_op_kept place_part place_marks w s t) (finish_open w s t) holds
assigned_hold w s t d to assign.EBUSY holds = same_hold w s _ (C.finish_op_kept place_part place_marks w s t) (finish_open w s t) holds

drop_hold : (w : Work) (s : State) (c : ℕ) (e : Event) → OpenHold w s → OpenHold w (drop_ageing s c e)
unfolding drop_ageing set_duty
drop_hold w s c e holds = same_hold w s (drop_ageing s c e) (drop_places s c e) refl holds

joined_hold : (w : Work) (s : State) (c : CpuId) (to : SetId) → c.0 < w.cpus → (cpu_of s c.0).closing ≡ Some to → OpenHold w s → OpenHold w (joined s c to)
unfolding joined
joined_hold w s c to c_in closes holds = join_hold w s c to c_in closes holds

-- the processor of a cause that closes is one of the workload's
maker_there : (w : Work) (s : State) (c : ℕ) (to : SetId) → IsReady w s → (cpu_of s c).closing ≡ Some to → c < w.cpus
maker_there w s c to ready closes = let inside = closing_inside s c to closes in let many = ready.fits.cpus in omega (arith, inside, many)

pub open_kept : (w : Work) (s : State) (n : ℕ) (c : CpuId) (e : Event) → IsReady w s → IsCause w s c.0 e → OpenHold w s → OpenHold w (after w s n c e)
unfolding after effect
open_kept w s n c (Assign t d to answer) ready cause holds = assigned_hold w (drop_ageing s c.0 (Assign t d to answer)) t.0 d to answer (drop_hold w s c.0 (Assign t d to answer) holds)
open_kept w s n c (Joined to) ready cause holds =
    joined_hold w (drop_ageing s c.0 (Joined to)) c to (maker_there w s c.0 to ready cause.1)
    (ap (λ (x : SetId × Option SetId). x.1) ((drop_places s c.0 (Joined to)).each c.0) ∙ cause.1) (drop_hold w s c.0 (Joined to) holds)
open_kept w s n c e ready cause holds = same_hold w s (after w s n c e) (cpus_same w s n c e refl) (open_same w s n c e refl) holds

-- The initial state.

pub range_rises : (q : ℕ → Bool) (n k : ℕ) → IsRising n (map cpu_of_number (filter q (range_with_len n k)))
range_rises q n zero = tt
range_rises q n (suc k) = by (q n) (range_rises q (n + 1) k)
  where
    by : (b : Bool) → IsRising (n + 1) (map cpu_of_number (filter q (range_with_len (n + 1) k))) → IsRising n (map cpu_of_number (if b then (n ∷ filter q (range_with_len (n + 1) k)) else filter q (range_with_len (n + 1) k)))
    by true rest = (omega arith, rest)
    by false rest = rising_less n (n + 1) (map cpu_of_number (filter q (range_with_len (n + 1) k))) (omega arith) rest

in_range : (q : ℕ → Bool) (c n k : ℕ) → is_in c (map cpu_of_number (filter q (range_with_len n k))) ≡ true → (c < n + k) × (q c ≡ true)
in_range q c n zero e = cc
in_range q c n (suc k) e = by (q n) refl (λ f. let (a, d) = in_range q c (n + 1) k f in ((omega (arith, a)), d)) e
  where
    by : (b : Bool) → q n ≡ b → (is_in c (map cpu_of_number (filter q (range_with_len (n + 1) k))) ≡ true → (c < n + suc k) × (q c ≡ true))
        → is_in c (map cpu_of_number (if b then (n ∷ filter q (range_with_len (n + 1) k)) else filter q (range_with_len (n + 1) k))) ≡ true → (c < n + suc k) × (q c ≡ true)
    by true is more e = elim (in_later c (cpu_of_number n) (map cpu_of_number (filter q (range_with_len (n + 1) k))) e) [
      | inl here ↦ ((omega (arith, here)), ap q (sym here) ∙ is)
      | inr rest ↦ more rest
    ]
    by false is more e = more e

opening_list : (w : Work) (p : ℕ) → (open_of (opening w) p ≡ cpus_of_set w p) ⊎ (open_of (opening w) p ≡ [])
unfolding opening
opening_list w p = elim (cases_lt p (length w.sets + 1)) [
  | inl here ↦ inl (ap (λ (x : ArrayVec CpuId). x.items) (get_or-map-range_with_len (open_list w) 0 (length w.sets + 1) p p no_cpus here (omega arith)))
  | inr past ↦ inr (ap (λ (x : ArrayVec CpuId). x.items) (get_or_past (map (open_list w) (range_with_len 0 (length w.sets + 1))) p no_cpus (let many = length-map-range_with_len (open_list w) 0 (length w.sets + 1) in omega (arith, many, past))))
]

first_place : (w : Work) (c : ℕ) → c < w.cpus → ((cpu_of (opening w) c).set.0 ≡ set_of_cpu w c) × ((cpu_of (opening w) c).closing ≡ None)
unfolding opening first_cpu_state
first_place w c here =
    let at : cpu_of (opening w) c ≡ first_cpu_state w c = get_or-map-range_with_len (first_cpu_state w) 0 w.cpus c c no_cpu here (omega arith) in
    (ap (λ (x : CpuState). x.set.0) at, ap (λ (x : CpuState). x.closing) at)

opening_open : (w : Work) → OpenHold w (opening w)
opening_open w = record {
  member = λ p c e. elim (opening_list w p) [
    | inl is ↦ member p c (subst (λ xs. is_in c xs ≡ true) is e)
    | inr none ↦ absurd (false≢true (subst (λ xs. is_in c xs ≡ true) none e))
  ];
  rising = λ p. elim (opening_list w p) [
    | inl is ↦ subst (λ xs. IsRising 0 xs) (sym is) (range_rises (λ c. set_of_cpu w c == p) 0 w.cpus)
    | inr none ↦ subst (λ xs. IsRising 0 xs) (sym none) tt
  ];
}
  where
    member : (p c : ℕ) → is_in c (cpus_of_set w p) ≡ true → (c < w.cpus) × ((cpu_of (opening w) c).set.0 ≡ p) × ((cpu_of (opening w) c).closing ≡ None)
    member p c e =
        let (below, test) = in_range (λ c. set_of_cpu w c == p) c 0 w.cpus e in
        let inside : c < w.cpus = omega (arith, below) in
        let (set_is, none) = first_place w c inside in
        (inside, set_is ∙ eqb-true (set_of_cpu w c) p test, none)

pub open_is_kept : IsKept (λ w n s. OpenHold w s)
open_is_kept = record { start = opening_open; step = open_kept }
