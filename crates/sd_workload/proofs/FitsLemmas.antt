-- A script of which no operation is at fault, with the operations of one more line.
use Rattle.std.proofs.Common.{◌≡◌, ℕ, zero, suc, ◌+◌, ◌-◌, ◌<◌, ◌≤◌, Bool, true, false, cond, ◌&&◌, List, [], ◌∷◌, ◌++◌, length, take, Option, Some, None, inl, inr, refl, sym, ap, ◌∙◌, subst, arith, append-nil, length-append}
use Rattle.std.specs.List.{slice_get}
use Rattle.std.proofs.lemmas.Bool.{cases_lt, false≢true}
use Rattle.std.proofs.lemmas.Bool.Decides.{nat_tests}
use Rattle.std.proofs.lemmas.List.{take-append-le}
use Rattle.std.proofs.lemmas.Option.{slice_get_past, same_Some, none-some}
use Rattle.sd_types.specs.declared.numbers.ChanId.{ChanId}
use Rattle.sd_types.specs.declared.numbers.LockId.{LockId}
use Rattle.sd_types.specs.declared.scripts.Op.{Op}
use Rattle.sd_types.specs.declared.scripts.Op.TheVariants.{Run, Yield, Nap, Sleep, Wake, WakeAll, Enter, Read, Write, Exit, Prio, CvWait, SemaP, SemaV, Assign, Pbind}
use Rattle.std.specs.Prelude.{nat_lt}
use Rattle.sd_types.specs.Scripts.{is_held, held_by, op_fits, EachOpFits}
use Rattle.sd_script.specs.declared.faults.ScriptFault.{ScriptFault}
use Rattle.sd_script.specs.declared.faults.ScriptFault.TheVariants.{AlreadyHeld, TooLong, TooManyHeld, Unbalanced, Unpaired}
use Rattle.sd_script.specs.Faults.{is_ninth, is_taken_again, is_unbalanced, is_unpaired, op_fault}
use Rattle.sd_script.proofs.FaultLemmas.{op_fits-from_none, slice_get-append}
use Rattle.std.specs.Option.{option_map}
use Rattle.sd_lines.specs.Words.{Line}
use Rattle.sd_lines.specs.Operations.{Operation, operation_of}
use Rattle.sd_declare.specs.declared.causes.WorkCause.TheVariants.{Syntax, Script}
use Rattle.sd_declare.specs.Declarations.{Declarations}
use Rattle.sd_declare.specs.Operations.{op_of, ops_of_op}
use Rattle.sd_workload.specs.Texts.{unless_done, operation_cause, ops_of}
use Rattle.sd_workload.specs.Scripts.{first_of, fault_behind, more_fault, ops_fault}

-- an operation that fits at the end of a script is no wait, and fits before any other
at-none : (held : List LockId) (op : Op) (after : Option Op) → op_fits held op None ≡ true → op_fits held op after ≡ true
at-none held (CvWait k l) after h = absurd (wait (is_held l held) h)
  where
    wait : (b : Bool) → (b && false) ≡ true → ⊥
    wait true e = false≢true e
    wait false e = false≢true e
at-none held _ after h = h

get-back : (xs ys : List Op) (i j : ℕ) → i ≡ length xs + j → slice_get (xs ++ ys) i ≡ slice_get ys j
get-back [] ys i j e = ap (slice_get ys) (omega (arith, e))
get-back (x ∷ xs) ys zero j e = absurd (omega (arith, e))
get-back (x ∷ xs) ys (suc i) j e = get-back xs ys i j (omega (arith, e))

take-back : (xs ys : List Op) (i j : ℕ) → i ≡ length xs + j → take i (xs ++ ys) ≡ xs ++ take j ys
take-back [] ys i j e = ap (λ n. take n ys) (omega (arith, e))
take-back (x ∷ xs) ys zero j e = absurd (omega (arith, e))
take-back (x ∷ xs) ys (suc i) j e = ap (λ l. x ∷ l) (take-back xs ys i j (omega (arith, e)))

-- what an operation of the first list needs, before the second
front-fits : (ops new : List Op) → EachOpFits ops → (i : ℕ) (op : Op) → i < length ops → slice_get ops i ≡ Some op
    → op_fits (held_by (take i (ops ++ new))) op (slice_get (ops ++ new) (i + 1)) ≡ true
front-fits ops new fits i op h e = elim (cases_lt (i + 1) (length ops)) [
  | inl more ↦
      ap (λ l. op_fits (held_by l) op (slice_get (ops ++ new) (i + 1))) (take-append-le i ops new (omega arith))
      ∙ ap (op_fits (held_by (take i ops)) op) (slice_get-append ops new (i + 1) more) ∙ fits i op e
  | inr last ↦
      ap (λ l. op_fits (held_by l) op (slice_get (ops ++ new) (i + 1))) (take-append-le i ops new (omega arith))
      ∙ at-none (held_by (take i ops)) op (slice_get (ops ++ new) (i + 1))
      (sym (ap (op_fits (held_by (take i ops)) op) (slice_get_past ops (i + 1) last)) ∙ fits i op e)
]

pub fits-append : (ops new : List Op) → EachOpFits ops
    → ((j : ℕ) (op : Op) → slice_get new j ≡ Some op → op_fits (held_by (ops ++ take j new)) op (slice_get new (j + 1)) ≡ true) → EachOpFits (ops ++ new)
fits-append ops new fits more = λ i op e. elim (cases_lt i (length ops)) [
  | inl h ↦ front-fits ops new fits i op h (sym (slice_get-append ops new i h) ∙ e)
  | inr h ↦
      let j = i - length ops in
      let at : i ≡ length ops + j = omega arith in
      let next : i + 1 ≡ length ops + (j + 1) = omega arith in
      ap (λ l. op_fits (held_by l) op (slice_get (ops ++ new) (i + 1))) (take-back ops new i j at)
      ∙ ap (op_fits (held_by (ops ++ take j new)) op) (get-back ops new (i + 1) (j + 1) next)
      ∙ more j op (sym (get-back ops new i j at) ∙ e)
]

-- one more operation without a fault: there is room, and it fits
pub more-none : (ops : List Op) (op : Op) (after : Option Op) → more_fault ops op after ≡ None → (length ops < 256) × (op_fits (held_by ops) op after ≡ true)
unfolding fault_behind
more-none ops op after h = elim (cases_lt (length ops) 256) [
  | inl room ↦
      let none : op_fault (length ops) (held_by ops) op after ≡ None = sym (chosen (nat_lt (length ops) 256) (grind (arith, nat_tests)) (op_fault (length ops) (held_by ops) op after)) ∙ h in
      (room, op_fits-from_none (length ops) (held_by ops) op after none)
  | inr full ↦ absurd (none-some TooLong (sym h ∙ other (nat_lt (length ops) 256) (grind (arith, nat_tests)) (op_fault (length ops) (held_by ops) op after)))
]
  where
    chosen : (b : Bool) → b ≡ true → (o : Option ScriptFault) → cond b o (Some TooLong) ≡ o
    chosen true e o = refl
    chosen false e o = absurd (false≢true e)

    other : (b : Bool) → b ≡ false → (o : Option ScriptFault) → cond b o (Some TooLong) ≡ Some TooLong
    other true e o = absurd (false≢true (sym e))
    other false e o = refl

-- and it takes no ninth lock
ninth : (room unbalanced ninth again unpaired : Bool) (e f g h : ScriptFault)
    → cond room (cond unbalanced (Some e) (cond ninth (Some f) (cond again (Some g) (cond unpaired (Some h) None)))) (Some TooLong) ≡ None → ninth ≡ false
ninth true true n a u e f g h none = absurd (none-some e (sym none))
ninth true false true a u e f g h none = absurd (none-some f (sym none))
ninth true false false a u e f g h none = refl
ninth false b n a u e f g h none = absurd (none-some TooLong (sym none))

no-ninth : (ops : List Op) (op : Op) (after : Option Op) → more_fault ops op after ≡ None → is_ninth (held_by ops) op ≡ false
unfolding fault_behind
no-ninth ops op after none =
    let held = held_by ops in
    ninth (nat_lt (length ops) 256) (is_unbalanced held op) (is_ninth held op) (is_taken_again held op) (is_unpaired op after)
    (Unbalanced (length ops)) (TooManyHeld (length ops)) (AlreadyHeld (length ops)) (Unpaired (length ops)) none

pub parts : {X : Type 0} (a b : Option X) → first_of a b ≡ None → (a ≡ None) × (b ≡ None)
parts None b h = (refl, h)
parts (Some x) b h = absurd (none-some x (sym h))

-- the one operation of a line
each-one : (ops : List Op) (op : Op) → op_fits (held_by ops) op None ≡ true → (j : ℕ) (x : Op) → slice_get (op ∷ []) j ≡ Some x
    → op_fits (held_by (ops ++ take j (op ∷ []))) x (slice_get (op ∷ []) (j + 1)) ≡ true
each-one ops op fits zero x e =
    ap (λ l. op_fits (held_by l) x None) (append-nil ops) ∙ subst (λ (y : Op). op_fits (held_by ops) y None ≡ true) (same_Some op x e) fits
each-one ops op fits (suc j) x e = absurd (none-some x e)

-- the two operations of a line
each-two : (ops : List Op) (a b : Op) → op_fits (held_by ops) a (Some b) ≡ true → op_fits (held_by (ops ++ a ∷ [])) b None ≡ true
    → (j : ℕ) (x : Op) → slice_get (a ∷ b ∷ []) j ≡ Some x → op_fits (held_by (ops ++ take j (a ∷ b ∷ []))) x (slice_get (a ∷ b ∷ []) (j + 1)) ≡ true
each-two ops a b first second zero x e =
    ap (λ l. op_fits (held_by l) x (Some b)) (append-nil ops) ∙ subst (λ (y : Op). op_fits (held_by ops) y (Some b) ≡ true) (same_Some a x e) first
each-two ops a b first second (suc zero) x e = subst (λ (y : Op). op_fits (held_by (ops ++ a ∷ [])) y None ≡ true) (same_Some b x e) second
each-two ops a b first second (suc (suc j)) x e = absurd (none-some x e)

one-fits : (ops : List Op) (op : Op) → EachOpFits ops → ops_fault ops (op ∷ []) ≡ None → EachOpFits (ops ++ op ∷ []) × (length (ops ++ op ∷ []) ≤ 256)
one-fits ops op fits h =
    let p = more-none ops op None (parts _ _ h).0 in
    (fits-append ops (op ∷ []) fits (each-one ops op p.1), omega (arith, p.0, length-append ops (op ∷ [])))

-- the first operation of a line without a fault, and the second of a wait, take no ninth lock
pub first-room : (ops : List Op) (op : Op) → ops_fault ops (ops_of_op op) ≡ None → is_ninth (held_by ops) op ≡ false
first-room ops (Enter l) h = no-ninth ops (Enter l) None (parts _ _ h).0
first-room ops (Read l) h = no-ninth ops (Read l) None (parts _ _ h).0
first-room ops (Write l) h = no-ninth ops (Write l) None (parts _ _ h).0
first-room ops _ h = refl

pub second-room : (ops : List Op) (k : ChanId) (l : LockId) → ops_fault ops (ops_of_op (CvWait k l)) ≡ None → is_ninth (held_by (ops ++ CvWait k l ∷ [])) (Enter l) ≡ false
second-room ops k l h = no-ninth (ops ++ CvWait k l ∷ []) (Enter l) None (parts _ _ (parts _ _ h).1).0

-- the operations of one more line
pub line-fits : (ops : List Op) (op : Op) → EachOpFits ops → ops_fault ops (ops_of_op op) ≡ None
    → EachOpFits (ops ++ ops_of_op op) × (length (ops ++ ops_of_op op) ≤ 256)
line-fits ops (CvWait k l) fits h =
    let q = parts _ _ h in
    let p = more-none ops (CvWait k l) (Some (Enter l)) q.0 in
    let r = more-none (ops ++ CvWait k l ∷ []) (Enter l) None (parts _ _ q.1).0 in (
      fits-append ops (CvWait k l ∷ Enter l ∷ []) fits (each-two ops (CvWait k l) (Enter l) p.1 r.1),
      omega (arith, r.0, length-append ops (CvWait k l ∷ []), length-append ops (CvWait k l ∷ Enter l ∷ [])),
    )
line-fits ops (Run n) fits h = one-fits ops (Run n) fits h
line-fits ops Yield fits h = one-fits ops Yield fits h
line-fits ops (Nap n) fits h = one-fits ops (Nap n) fits h
line-fits ops (Sleep k) fits h = one-fits ops (Sleep k) fits h
line-fits ops (Wake k) fits h = one-fits ops (Wake k) fits h
line-fits ops (WakeAll k) fits h = one-fits ops (WakeAll k) fits h
line-fits ops (Enter l) fits h = one-fits ops (Enter l) fits h
line-fits ops (Read l) fits h = one-fits ops (Read l) fits h
line-fits ops (Write l) fits h = one-fits ops (Write l) fits h
line-fits ops (Exit l) fits h = one-fits ops (Exit l) fits h
line-fits ops (Prio t r) fits h = one-fits ops (Prio t r) fits h
line-fits ops (SemaP k) fits h = one-fits ops (SemaP k) fits h
line-fits ops (SemaV k) fits h = one-fits ops (SemaV k) fits h
line-fits ops (Assign c s) fits h = one-fits ops (Assign c s) fits h
line-fits ops (Pbind t c) fits h = one-fits ops (Pbind t c) fits h

pub none-mapped : {X Y : Type 0} (f : X → Y) (o : Option X) → option_map f o ≡ None → o ≡ None
none-mapped f None h = refl
none-mapped f (Some x) h = absurd (none-some (f x) (sym h))

op-more : (d : Declarations) (ops : List Op) (o : Option Operation) → operation_cause d ops o ≡ None → EachOpFits ops → EachOpFits (ops ++ ops_of d o) × (length (ops ++ ops_of d o) ≤ 256)
op-more d ops None none fits = absurd (none-some Syntax (sym none))
op-more d ops (Some o) none fits = line-fits ops (op_of d o) fits (none-mapped Script (ops_fault ops (ops_of_op (op_of d o))) (parts _ _ none).1)

-- the operations of a line of a script, which may have no words
pub line-more : (d : Declarations) (ops : List Op) (line : Line) → unless_done line (operation_cause d ops (operation_of line)) ≡ None → EachOpFits ops → length ops ≤ 256
    → EachOpFits (ops ++ ops_of d (operation_of line)) × (length (ops ++ ops_of d (operation_of line)) ≤ 256)
unfolding operation_of
line-more d ops [] none fits short =
    (subst EachOpFits (sym (append-nil ops)) fits, subst (λ (l : List Op). length l ≤ 256) (sym (append-nil ops)) short)
line-more d ops (word ∷ words) none fits short = op-more d ops (operation_of (word ∷ words)) none fits
