-- What follows from the definitions of a list's faults.
use Rattle.std.proofs.Common.{◌≡◌, ℕ, zero, suc, ◌+◌, ◌<◌, ◌≤◌, Bool, true, false, cond, List, [], length, take, get_or, ◌⊎◌, inl, inr, Option, Some, None, refl, sym, ap, ◌∙◌, subst, arith, below_more, slice_get, min, ◌++◌, ◌∷◌}
use Rattle.std.specs.Option.{option_and_then}
use Rattle.std.proofs.lemmas.Bool.{cases_lt}
use Rattle.std.proofs.lemmas.Bool.Decides.{nat_tests}
use Rattle.std.proofs.lemmas.List.{take_all, take-append-le}
use Rattle.std.proofs.lemmas.List.Sums.{fold_more}
use Rattle.std.proofs.lemmas.Option.{option_and_then_some, slice_get_past, slice_get-get_or, slice_get_within, none-some, slice_get_cases, same_Some}
use Rattle.sd_types.specs.declared.numbers.LockId.{LockId}
use Rattle.sd_types.specs.declared.scripts.Op.{Op}
use Rattle.sd_types.specs.declared.scripts.Op.TheVariants.{Enter, Read, Write, Exit, CvWait}
use Rattle.sd_types.specs.Scripts.{held_after, held_by, op_fits, EachOpFits}
use Rattle.sd_script.specs.declared.faults.ScriptFault.{ScriptFault}
use Rattle.sd_script.specs.declared.faults.ScriptFault.TheVariants.{Unbalanced, TooManyHeld, HeldAtExit, TooLong, AlreadyHeld, Unpaired}
use Rattle.sd_script.specs.Faults.{op_fault, fault_at, is_wait, IsFreeBelow, IsFirstAt, IsFault, IsWellFormed}

-- an operation without a fault fits, and the other way round
pub op_fits-from_none : (i : ℕ) (held : List LockId) (op : Op) (after : Option Op) → op_fault i held op after ≡ None → op_fits held op after ≡ true
op_fits-from_none i held (Enter l) after h = grind (arith, nat_tests)
op_fits-from_none i held (Read l) after h = grind (arith, nat_tests)
op_fits-from_none i held (Write l) after h = grind (arith, nat_tests)
op_fits-from_none i held (Exit l) after h = grind (arith, nat_tests)
op_fits-from_none i held (CvWait k l) after h = grind (arith, nat_tests)
op_fits-from_none i held _ after h = refl

pub op_fault-from_fits : (i : ℕ) (held : List LockId) (op : Op) (after : Option Op) → op_fits held op after ≡ true → op_fault i held op after ≡ None
op_fault-from_fits i held (Enter l) after h = grind (arith, nat_tests)
op_fault-from_fits i held (Read l) after h = grind (arith, nat_tests)
op_fault-from_fits i held (Write l) after h = grind (arith, nat_tests)
op_fault-from_fits i held (Exit l) after h = grind (arith, nat_tests)
op_fault-from_fits i held (CvWait k l) after h = grind (arith, nat_tests)
op_fault-from_fits i held _ after h = refl

-- the fault at an index of the list, by its operation
fault_at-op : (ops : List Op) (i : ℕ) (op : Op) → slice_get ops i ≡ Some op → fault_at ops i ≡ op_fault i (held_by (take i ops)) op (slice_get ops (i + 1))
fault_at-op ops i op e = ap (option_and_then (λ x. op_fault i (held_by (take i ops)) x (slice_get ops (i + 1)))) e

fault_at-past : (ops : List Op) (i : ℕ) → length ops ≤ i → fault_at ops i ≡ None
fault_at-past ops i h = ap (option_and_then (λ x. op_fault i (held_by (take i ops)) x (slice_get ops (i + 1)))) (slice_get_past ops i h)

pub EachOpFits-from_free : (ops : List Op) (n : ℕ) → length ops ≤ n → IsFreeBelow ops n → EachOpFits ops
EachOpFits-from_free ops n long free i op e =
    let within = slice_get_within ops i op e in
    op_fits-from_none i (held_by (take i ops)) op (slice_get ops (i + 1)) (sym (fault_at-op ops i op e) ∙ free i (omega arith))

pub IsFreeBelow-from_fits : (ops : List Op) → EachOpFits ops → (n : ℕ) → IsFreeBelow ops n
IsFreeBelow-from_fits ops fits n i h = elim (slice_get_cases ops i).1 [
  | inl w ↦ fault_at-op ops i w.0 w.2 ∙ op_fault-from_fits i (held_by (take i ops)) w.0 (slice_get ops (i + 1)) (fits i w.0 w.2)
  | inr w ↦ fault_at-past ops i (omega arith)
]

-- the first of the operations below n that has a fault
pub record First (ops : List Op) (n : ℕ) : Type 0 where
  pub place : ℕ
  pub fault : ScriptFault
  pub below : place < n
  pub is : fault_at ops place ≡ Some fault
  pub free : IsFreeBelow ops place

option_cases : {X : Type 0} (o : Option X) → (o ≡ None) ⊎ ((x : X) × (o ≡ Some x))
option_cases None = inl refl
option_cases (Some x) = inr (x, refl)

pub first_fault : (ops : List Op) (n : ℕ) → IsFreeBelow ops n ⊎ First ops n
first_fault ops zero = inl (λ i h. absurd (omega arith))
first_fault ops (suc n) = elim (first_fault ops n) [
  | inr f ↦ inr (record { place = f.place; fault = f.fault; below = omega arith; is = f.is; free = f.free })
  | inl free ↦ elim (option_cases (fault_at ops n)) [
    | inl e ↦ inl (λ i h. below_more _ n free e i (omega arith))
    | inr w ↦ inr (record { place = n; fault = w.0; below = omega arith; is = w.1; free = free })
  ]
]

-- the first fault is the list's
IsFault-cond : (ops : List Op) (i : ℕ) (a b c d : Bool) (fault : ScriptFault)
    → cond a (Some (Unbalanced i)) (cond b (Some (TooManyHeld i)) (cond c (Some (AlreadyHeld i)) (cond d (Some (Unpaired i)) None))) ≡ Some fault
    → IsFirstAt ops i fault → IsFault ops fault
IsFault-cond ops i true b c d fault e first = subst (λ (f : ScriptFault). IsFirstAt ops i f → IsFault ops f) (same_Some _ _ e) (λ x. x) first
IsFault-cond ops i false true c d fault e first = subst (λ (f : ScriptFault). IsFirstAt ops i f → IsFault ops f) (same_Some _ _ e) (λ x. x) first
IsFault-cond ops i false false true d fault e first = subst (λ (f : ScriptFault). IsFirstAt ops i f → IsFault ops f) (same_Some _ _ e) (λ x. x) first
IsFault-cond ops i false false false true fault e first = subst (λ (f : ScriptFault). IsFirstAt ops i f → IsFault ops f) (same_Some _ _ e) (λ x. x) first
IsFault-cond ops i false false false false fault e first = absurd (none-some _ e)

pub IsFault-first : (ops : List Op) (i : ℕ) (fault : ScriptFault) → i < 256 → fault_at ops i ≡ Some fault → IsFreeBelow ops i → IsFault ops fault
IsFault-first ops i fault below is free =
    option_and_then_some (λ op. op_fault i (held_by (take i ops)) op (slice_get ops (i + 1))) (slice_get ops i) fault is
    (λ op e f. IsFault-cond ops i _ _ _ _ fault f (below, is, free))

-- One more operation: x, with the locks that are held before it and the operation after it.
pub held_by_more : (ops : List Op) (i : ℕ) (d : Op) (held now : List LockId) → i < length ops
    → held ≡ held_by (take i ops) → now ≡ held_after held (get_or ops i d) → now ≡ held_by (take (i + 1) ops)
held_by_more ops i d held now h e n = n ∙ ap (λ (ls : List LockId). held_after ls (get_or ops i d)) e ∙ sym (fold_more held_after [] ops i d h)

fault_at-read : (ops : List Op) (i : ℕ) (d : Op) (held : List LockId) (after : Option Op) → i < length ops
    → held ≡ held_by (take i ops) → after ≡ slice_get ops (i + 1) → fault_at ops i ≡ op_fault i held (get_or ops i d) after
fault_at-read ops i d held after h e a =
    rw (e, a) (fault_at-op ops i (get_or ops i d) (slice_get-get_or ops i d h))

pub free_more : (ops : List Op) (i : ℕ) (d : Op) (held : List LockId) (after : Option Op) → i < length ops
    → held ≡ held_by (take i ops) → after ≡ slice_get ops (i + 1) → op_fault i held (get_or ops i d) after ≡ None → IsFreeBelow ops i → IsFreeBelow ops (i + 1)
free_more ops i d held after h e a none free = below_more _ i free (fault_at-read ops i d held after h e a ∙ none)

pub fault_here : (ops : List Op) (i : ℕ) (d : Op) (held : List LockId) (after : Option Op) (fault : ScriptFault) → i < length ops → i < 256
    → held ≡ held_by (take i ops) → after ≡ slice_get ops (i + 1) → op_fault i held (get_or ops i d) after ≡ Some fault → IsFreeBelow ops i → IsFault ops fault
fault_here ops i d held after fault h b e a some free = IsFault-first ops i fault b (fault_at-read ops i d held after h e a ∙ some) free

-- no list has two faults
HasFault : List Op → ScriptFault → Type 0
HasFault ops fault =
    ((i : ℕ) × IsFirstAt ops i fault) ⊎ ((fault ≡ TooLong) × (256 < length ops) × IsFreeBelow ops 256) ⊎ ((fault ≡ HeldAtExit) × (length ops ≤ 256) × IsFreeBelow ops (length ops))

has_fault : (ops : List Op) (fault : ScriptFault) → IsFault ops fault → HasFault ops fault
unfolding HasFault
has_fault ops (Unbalanced i) f = inl (i, f)
has_fault ops (TooManyHeld i) f = inl (i, f)
has_fault ops (AlreadyHeld i) f = inl (i, f)
has_fault ops (Unpaired i) f = inl (i, f)
has_fault ops TooLong f = inr (inl (refl, f.0, f.1))
has_fault ops HeldAtExit f = inr (inr (refl, f.0, f.1))

-- no operation is at fault where all below the length are free
not_free : (ops : List Op) (i n : ℕ) (fault : ScriptFault) {P : Type 0} → fault_at ops i ≡ Some fault → IsFreeBelow ops n → i < n → P
not_free ops i n fault is free h = absurd (none-some fault (sym (free i h) ∙ is))

same_first : (ops : List Op) (i j : ℕ) (one other : ScriptFault) → IsFirstAt ops i one → IsFirstAt ops j other → one ≡ other
same_first ops i j one other a b = elim (cases_lt i j) [
  | inl h ↦ not_free ops i j one a.1 b.2 h
  | inr h ↦ elim (cases_lt j i) [
    | inl k ↦ not_free ops j i other b.1 a.2 k
    | inr k ↦ let e : i ≡ j = omega arith in same_Some one other (sym a.1 ∙ ap (fault_at ops) e ∙ b.1)
  ]
]

within : (ops : List Op) (i : ℕ) (fault : ScriptFault) → fault_at ops i ≡ Some fault → i < length ops
within ops i fault is = elim (cases_lt i (length ops)) [ inl h ↦ h | inr h ↦ absurd (none-some fault (sym (fault_at-past ops i h) ∙ is)) ]

pub same_fault : (ops : List Op) (one other : ScriptFault) → IsFault ops one → IsFault ops other → one ≡ other
unfolding HasFault
same_fault ops one other a b = elim (has_fault ops one a) [
  | inl f ↦ elim (has_fault ops other b) [
    | inl g ↦ same_first ops f.0 g.0 one other f.1 g.1
    | inr (inl g) ↦ not_free ops f.0 256 one f.1.1 g.2 f.1.0
    | inr (inr g) ↦ not_free ops f.0 (length ops) one f.1.1 g.2 (within ops f.0 one f.1.1)
  ]
  | inr (inl f) ↦ elim (has_fault ops other b) [
    | inl g ↦ not_free ops g.0 256 other g.1.1 f.2 g.1.0
    | inr (inl g) ↦ f.0 ∙ sym g.0
    | inr (inr g) ↦ absurd (omega arith)
  ]
  | inr (inr f) ↦ elim (has_fault ops other b) [
    | inl g ↦ not_free ops g.0 (length ops) other g.1.1 f.2 (within ops g.0 other g.1.1)
    | inr (inl g) ↦ absurd (omega arith)
    | inr (inr g) ↦ f.0 ∙ sym g.0
  ]
]

-- a list with a fault is not well formed
pub no_fault : (ops : List Op) (fault : ScriptFault) → IsWellFormed ops → IsFault ops fault → ⊥
no_fault ops (Unbalanced i) w f = none-some _ (sym (IsFreeBelow-from_fits ops w.each_fits 256 i f.0) ∙ f.1)
no_fault ops (TooManyHeld i) w f = none-some _ (sym (IsFreeBelow-from_fits ops w.each_fits 256 i f.0) ∙ f.1)
no_fault ops (AlreadyHeld i) w f = none-some _ (sym (IsFreeBelow-from_fits ops w.each_fits 256 i f.0) ∙ f.1)
no_fault ops (Unpaired i) w f = none-some _ (sym (IsFreeBelow-from_fits ops w.each_fits 256 i f.0) ∙ f.1)
no_fault ops TooLong w f = omega (arith, w.short)
no_fault ops HeldAtExit w f = omega (arith, w.released)

pub some_answer : (ops : List Op) → IsWellFormed ops ⊎ ((fault : ScriptFault) × IsFault ops fault)
some_answer ops = elim (first_fault ops 256) [
  | inr f ↦ inr (f.fault, IsFault-first ops f.place f.fault f.below f.is f.free)
  | inl free ↦ elim (cases_lt 256 (length ops)) [
    | inl long ↦ inr (TooLong, (long, free))
    | inr short ↦ elim (cases_lt 0 (length (held_by ops))) [
      | inl held ↦ inr (HeldAtExit, (short, (λ i h. free i (omega arith)), held))
      | inr none ↦ inl (record { each_fits = EachOpFits-from_free ops 256 short free; released = omega arith; short = short })
    ]
  ]
]

-- the locks that are held after the first 256 operations, where these are all
pub take_front : (ops : List Op) (i : ℕ) → i ≡ min (length ops) 256 → take i ops ≡ take 256 ops
take_front ops i e = elim (cases_lt 256 (length ops)) [
  | inl long ↦ let same : i ≡ 256 = omega arith in ap (λ n. take n ops) same
  | inr short ↦ let all : length ops ≤ i = omega arith in take_all i ops all ∙ sym (take_all 256 ops short)
]

pub held_at_exit : (ops : List Op) (held : List LockId) → length ops ≤ 256 → held ≡ held_by (take 256 ops) → IsFreeBelow ops (min (length ops) 256) → 0 < length held → IsFault ops HeldAtExit
held_at_exit ops held short e free h =
    let same = e ∙ ap held_by (take_all 256 ops short) in
    (short, (λ i k. free i (omega arith)), subst (λ (ls : List LockId). 0 < length ls) same h)

pub well_formed : (ops : List Op) (held : List LockId) → length ops ≤ 256 → held ≡ held_by (take 256 ops) → IsFreeBelow ops (min (length ops) 256) → length held ≡ 0 → IsWellFormed ops
well_formed ops held short e free h =
    let same = e ∙ ap held_by (take_all 256 ops short) in
    record { each_fits = EachOpFits-from_free ops (length ops) (omega arith) (λ i k. free i (omega arith)); released = subst (λ (ls : List LockId). length ls ≡ 0) same h; short = short }

pub slice_get-append : (xs ys : List Op) (i : ℕ) → i < length xs → slice_get (xs ++ ys) i ≡ slice_get xs i
slice_get-append [] ys i h = absurd (omega arith)
slice_get-append (x ∷ xs) ys zero h = refl
slice_get-append (x ∷ xs) ys (suc i) h = slice_get-append xs ys i (omega arith)

-- what follows an operation that is followed by another does not change its fault
pub fault_at-append : (ops more : List Op) (i : ℕ) → i + 1 < length ops → fault_at (ops ++ more) i ≡ fault_at ops i
fault_at-append ops more i h =
    rw (slice_get-append ops more i (omega arith), slice_get-append ops more (i + 1) h, take-append-le i ops more (omega arith)) refl

op_fault-alone : (i : ℕ) (held : List LockId) (op : Op) (one other : Option Op) → is_wait op ≡ false → op_fault i held op one ≡ op_fault i held op other
op_fault-alone i held (CvWait k l) one other h = absurd cc
op_fault-alone i held _ one other h = refl

-- nor that of one that is no wait
pub fault_at-append_alone : (ops more : List Op) (i : ℕ) (op : Op) → slice_get ops i ≡ Some op → is_wait op ≡ false → fault_at (ops ++ more) i ≡ fault_at ops i
fault_at-append_alone ops more i op e h =
    let within = slice_get_within ops i op e in
    fault_at-op (ops ++ more) i op (slice_get-append ops more i within ∙ e)
    ∙ ap (λ held. op_fault i (held_by held) op (slice_get (ops ++ more) (i + 1))) (take-append-le i ops more (omega arith))
    ∙ op_fault-alone i (held_by (take i ops)) op (slice_get (ops ++ more) (i + 1)) (slice_get ops (i + 1)) h
    ∙ sym (fault_at-op ops i op e)
