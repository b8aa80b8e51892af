-- The operations of a script are taken in, line after line.
use Rattle.std.proofs.Common.{◌≡◌, ℕ, suc, ◌+◌, ◌<◌, ◌≤◌, Bool, true, false, eqb, List, [], ◌∷◌, ◌++◌, length, take, Option, Some, None, refl, sym, ap, ◌∙◌, subst, arith, append-nil, append_assoc, length-append}
use Rattle.std.specs.Prelude.{codes, slice_get, nat_lt}
use Rattle.std.specs.Option.{option_map}
use Rattle.std.specs.List.{list_all}
use Rattle.std.proofs.lemmas.Bool.{false≢true, and_parts}
use Rattle.std.proofs.lemmas.Bool.Decides.{nat_tests}
use Rattle.sd_types.specs.declared.numbers.LockId.{LockId}
use Rattle.sd_types.specs.declared.numbers.ChanId.{ChanId}
use Rattle.sd_types.specs.declared.numbers.ThreadId.{ThreadId}
use Rattle.sd_types.specs.declared.scripts.Op.{Op}
use Rattle.sd_types.specs.declared.scripts.Op.TheVariants.{Enter, CvWait}
use Rattle.sd_types.specs.declared.works.Work.{Work}
use Rattle.sd_types.specs.Scripts.{is_held, held_by, enters, op_fits, EachOpFits}
use Rattle.sd_types.specs.Works.{op_names}
use Rattle.sd_script.specs.Faults.{is_wait}
use Rattle.sd_script.proofs.FaultLemmas.{op_fault-from_fits}
use Rattle.sd_dispadmin.specs.TableText.{word_lines}
use Rattle.sd_lines.specs.Words.{Line, only_word}
use Rattle.sd_lines.specs.Operations.{Operation, operation_of}
use Rattle.sd_declare.specs.declared.causes.WorkCause.{WorkCause}
use Rattle.sd_declare.specs.declared.causes.WorkCause.TheVariants.{Script}
use Rattle.sd_declare.specs.Declarations.{Declarations}
use Rattle.sd_declare.specs.Operations.{operation_causes, op_of, ops_of_op}
use Rattle.sd_workload.specs.Scripts.{first_of, fault_behind, more_fault, ops_fault, end_fault}
use Rattle.sd_workload.specs.Texts.{Outside, InScript, unless_done, operation_cause, ops_of, with_script}
use Rattle.sd_workload.proofs.ScriptLemmas.{script-on, script-close}
use Rattle.sd_canonical.specs.Lines.{operation_line, operation_lines}
use Rattle.sd_canonical.specs.Canonical.{line_text, lines_text}
use Rattle.sd_canonical.proofs.TextLemmas.{line-again}
use Rattle.sd_canonical.proofs.TakesLemmas.{Takes, takes-nothing, takes-both, none-clear}
use Rattle.sd_state.proofs.Declared.{declared}
use Rattle.sd_canonical.proofs.OpLemmas.{Names, said, Reads, reads-op}

-- ---- where an operation stands

get-seam : (xs ys : List Op) (y : Op) → slice_get (xs ++ y ∷ ys) (length xs) ≡ Some y
get-seam [] ys y = refl
get-seam (x ∷ xs) ys y = get-seam xs ys y

next-seam : (xs ys : List Op) (y : Op) → slice_get (xs ++ y ∷ ys) (length xs + 1) ≡ slice_get ys 0
next-seam [] ys y = refl
next-seam (x ∷ xs) ys y =
    let e : suc (length xs) + 1 ≡ suc (length xs + 1) = omega arith in
    ap (slice_get ((x ∷ xs) ++ y ∷ ys)) e ∙ next-seam xs ys y

take-seam : (xs ys : List Op) → take (length xs) (xs ++ ys) ≡ xs
take-seam [] ys = refl
take-seam (x ∷ xs) ys = ap (λ l. x ∷ l) (take-seam xs ys)

fits-here : (front back : List Op) (o : Op) → EachOpFits (front ++ o ∷ back) → op_fits (held_by front) o (slice_get back 0) ≡ true
fits-here front back o fits =
    let whole = front ++ o ∷ back in
    ap (λ l. op_fits (held_by l) o (slice_get back 0)) (sym (take-seam front (o ∷ back)))
    ∙ ap (op_fits (held_by (take (length front) whole)) o) (sym (next-seam front back o)) ∙ fits (length front) o (get-seam front back o)

-- but for a wait, what follows does not matter
any-after : (held : List LockId) (o : Op) (a b : Option Op) → is_wait o ≡ false → op_fits held o a ≡ true → op_fits held o b ≡ true
any-after held (CvWait k l) a b single h = absurd (false≢true (sym single))
any-after held _ a b single h = h

pub one-alone : (o : Op) → is_wait o ≡ false → ops_of_op o ≡ o ∷ []
one-alone (CvWait k l) single = absurd (false≢true (sym single))
one-alone _ single = refl

wait-is : (o : Op) → is_wait o ≡ true → (k : ChanId) × (l : LockId) × (o ≡ CvWait k l)
wait-is (CvWait k l) waits = (k, l, refl)
wait-is _ waits = absurd (false≢true waits)

abbrev lock-of : ℕ → LockId
lock-of n = record { 0 = n }

same-lock : (l m : LockId) → eqb l.0 m.0 ≡ true → m ≡ l
same-lock l m h = let e : m.0 ≡ l.0 = grind (arith, nat_tests) in ap lock-of e

entered : (l : LockId) (back : List Op) → enters l (slice_get back 0) ≡ true → (more : List Op) × (back ≡ Enter l ∷ more)
entered l [] h = absurd (false≢true h)
entered l (Enter m ∷ more) h = (more, ap (λ (x : LockId). Enter x ∷ more) (same-lock l m h))
entered l (_ ∷ more) h = absurd (false≢true h)

-- ---- faults

pub more-free : (ops : List Op) (o : Op) (after : Option Op) → length ops < 256 → op_fits (held_by ops) o after ≡ true → more_fault ops o after ≡ None
unfolding fault_behind
more-free ops o after room fits =
    let waits : nat_lt (length ops) 256 ≡ true = grind (arith, nat_tests) in
    rw waits (op_fault-from_fits (length ops) (held_by ops) o after fits)

one-free : (front back : List Op) (o : Op) → is_wait o ≡ false → EachOpFits (front ++ o ∷ back) → length (front ++ o ∷ back) ≤ 256 → ops_fault front (ops_of_op o) ≡ None
one-free front back o single fits short =
    let room : length front < 256 = omega (arith, length-append front (o ∷ back)) in
    ap (ops_fault front) (one-alone o single)
    ∙ rw (more-free front o None room (any-after (held_by front) o (slice_get back 0) None single (fits-here front back o fits))) refl

two-free : (front more : List Op) (k : ChanId) (l : LockId) → EachOpFits (front ++ CvWait k l ∷ Enter l ∷ more) → length (front ++ CvWait k l ∷ Enter l ∷ more) ≤ 256
    → ops_fault front (CvWait k l ∷ Enter l ∷ []) ≡ None
two-free front more k l fits short =
    let next = front ++ CvWait k l ∷ [] in
    let e : front ++ CvWait k l ∷ Enter l ∷ more ≡ next ++ Enter l ∷ more = sym (append_assoc front (CvWait k l ∷ []) (Enter l ∷ more)) in
    let long = length-append front (CvWait k l ∷ Enter l ∷ more) in
    let longer = length-append front (CvWait k l ∷ []) in
    let here = fits-here front (Enter l ∷ more) (CvWait k l) fits in
    let there = any-after (held_by next) (Enter l) (slice_get more 0) None refl (fits-here next more (Enter l) (subst EachOpFits e fits)) in
    rw (more-free front (CvWait k l) (Some (Enter l)) (omega arith) here, more-free next (Enter l) None (omega arith) there) refl

-- ---- lines

unless-none : (line : Line) (cause : Option WorkCause) → cause ≡ None → unless_done line cause ≡ None
unless-none [] cause h = refl
unless-none (word ∷ words) cause h = h

pub takes-op : (d : Declarations) (t : ThreadId) (front : List Op) (line : Line) (s : Operation) (o : Op) → Reads d line s o → ops_fault front (ops_of_op o) ≡ None
    → Takes (line_text line) d (InScript t front) d (InScript t (front ++ ops_of_op o))
takes-op d t front line s o r free = record {
  on = λ n rest.
      let none : operation_cause d front (operation_of line) ≡ None =
      ap (operation_cause d front) r.form
      ∙ ap (λ c. first_of c (option_map Script (ops_fault front (ops_of_op (op_of d s))))) (none-clear (operation_causes d s) r.clear)
      ∙ ap (λ x. option_map Script (ops_fault front (ops_of_op x))) r.same ∙ ap (option_map Script) free in
      let new : front ++ ops_of_op o ≡ front ++ ops_of d (operation_of line) = ap (λ l. front ++ l) (sym (ap (ops_of d) r.form ∙ ap ops_of_op r.same)) in (
        n + 1,
        script-on n (n + 1) d t front (front ++ ops_of_op o) (word_lines (line_text line ++ rest)) (word_lines rest) line (line-again line rest r.plain) r.inside
            (unless-none line (operation_cause d front (operation_of line)) none) refl new,
      );
}

-- the line that closes the block
pub takes-close : (d : Declarations) (t : ThreadId) (ops : List Op) → length (held_by ops) ≡ 0 → Takes (line_text (codes "end" ∷ [])) d (InScript t ops) (with_script d t ops) Outside
unfolding only_word
takes-close d t ops released =
    let none : nat_lt 0 (length (held_by ops)) ≡ false = grind (arith, nat_tests) in
    let free : end_fault ops ≡ None = rw none refl in
    record {
      on = λ n rest. (
        n + 1,
        script-close n (n + 1) d t ops ops (word_lines (line_text (codes "end" ∷ []) ++ rest)) (word_lines rest) (codes "end" ∷ []) (line-again (codes "end" ∷ []) rest refl) refl free refl refl,
      );
    }

-- the operations that the block has, where the first of those that are left may be the entry behind a wait
abbrev ahead : Bool → List Op → List Op → List Op
ahead false front back = front
ahead true front [] = front
ahead true front (o ∷ back) = front ++ o ∷ []

module _ (w : Work) (d : Declarations) (n : Names w d) (t : ThreadId) where
  -- what is shown of the operations that are left
  abbrev Rest : List Op → Type 0
  Rest back = (entry : Bool) (front : List Op) → list_all (op_names (declared w)) back ≡ true → EachOpFits (front ++ back) → length (front ++ back) ≤ 256
      → Takes (lines_text (operation_lines w entry back)) d (InScript t (ahead entry front back)) d (InScript t (front ++ back))

  takes-plain : (o : Op) (back front : List Op) → is_wait o ≡ false → op_names (declared w) o ≡ true → list_all (op_names (declared w)) back ≡ true
      → EachOpFits (front ++ o ∷ back) → length (front ++ o ∷ back) ≤ 256 → Rest back
      → Takes (line_text (operation_line w o) ++ lines_text (operation_lines w false back)) d (InScript t front) d (InScript t (front ++ o ∷ back))
  takes-plain o back front single name names fits short rest =
      let next = front ++ o ∷ [] in
      let e : next ++ back ≡ front ++ o ∷ back = append_assoc front (o ∷ []) back in
      let here : Takes (line_text (operation_line w o)) d (InScript t front) d (InScript t next) =
      subst (λ (l : List Op). Takes (line_text (operation_line w o)) d (InScript t front) d (InScript t (front ++ l))) (one-alone o single)
      (takes-op d t front (operation_line w o) (said w o) o (reads-op w d n o name) (one-free front back o single fits short)) in
      let there : Takes (lines_text (operation_lines w false back)) d (InScript t next) d (InScript t (front ++ o ∷ back)) =
      subst (λ (l : List Op). Takes (lines_text (operation_lines w false back)) d (InScript t next) d (InScript t l)) e
      (rest false next names (subst EachOpFits (sym e) fits) (subst (λ (l : List Op). length l ≤ 256) (sym e) short)) in
      takes-both _ _ d d d (InScript t front) (InScript t next) (InScript t (front ++ o ∷ back)) here there

  takes-wait : (k : ChanId) (l : LockId) (back more front : List Op) → back ≡ Enter l ∷ more → op_names (declared w) (CvWait k l) ≡ true → list_all (op_names (declared w)) back ≡ true
      → EachOpFits (front ++ CvWait k l ∷ back) → length (front ++ CvWait k l ∷ back) ≤ 256 → Rest back
      → Takes (line_text (operation_line w (CvWait k l)) ++ lines_text (operation_lines w true back)) d (InScript t front) d (InScript t (front ++ CvWait k l ∷ back))
  takes-wait k l back more front is name names fits short rest =
      let o = CvWait k l in
      let next = front ++ o ∷ [] in
      let block = front ++ o ∷ Enter l ∷ [] in
      let e : next ++ back ≡ front ++ o ∷ back = append_assoc front (o ∷ []) back in
      let free = two-free front more k l (subst (λ (b : List Op). EachOpFits (front ++ o ∷ b)) is fits) (subst (λ (b : List Op). length (front ++ o ∷ b) ≤ 256) is short) in
      let here : Takes (line_text (operation_line w o)) d (InScript t front) d (InScript t block) = takes-op d t front (operation_line w o) (said w o) o (reads-op w d n o name) free in
      let a : ahead true next back ≡ block = ap (ahead true next) is ∙ append_assoc front (o ∷ []) (Enter l ∷ []) in
      let there : Takes (lines_text (operation_lines w true back)) d (InScript t block) d (InScript t (front ++ o ∷ back)) =
      subst (λ (b : List Op). Takes (lines_text (operation_lines w true back)) d (InScript t b) d (InScript t (front ++ o ∷ back))) a
      (subst (λ (x : List Op). Takes (lines_text (operation_lines w true back)) d (InScript t (ahead true next back)) d (InScript t x)) e
      (rest true next names (subst EachOpFits (sym e) fits) (subst (λ (x : List Op). length x ≤ 256) (sym e) short))) in
      takes-both _ _ d d d (InScript t front) (InScript t block) (InScript t (front ++ o ∷ back)) here there

  takes-step : (o : Op) (back front : List Op) (b : Bool) → is_wait o ≡ b → op_names (declared w) o ≡ true → list_all (op_names (declared w)) back ≡ true
      → EachOpFits (front ++ o ∷ back) → length (front ++ o ∷ back) ≤ 256 → Rest back
      → Takes (line_text (operation_line w o) ++ lines_text (operation_lines w b back)) d (InScript t front) d (InScript t (front ++ o ∷ back))
  takes-step o back front false single name names fits short rest = takes-plain o back front single name names fits short rest
  takes-step o back front true waits name names fits short rest =
      let p = wait-is o waits in
      let k = p.0 in
      let l = p.1 in
      let here : op_fits (held_by front) (CvWait k l) (slice_get back 0) ≡ true = fits-here front back (CvWait k l) (subst (λ (x : Op). EachOpFits (front ++ x ∷ back)) p.2 fits) in
      let q = entered l back (and_parts (is_held l (held_by front)) (enters l (slice_get back 0)) here).1 in
      subst (λ (x : Op). Takes (line_text (operation_line w x) ++ lines_text (operation_lines w true back)) d (InScript t front) d (InScript t (front ++ x ∷ back))) (sym p.2)
      (takes-wait k l back q.0 front q.1 (subst (λ (x : Op). op_names (declared w) x ≡ true) p.2 name) names
      (subst (λ (x : Op). EachOpFits (front ++ x ∷ back)) p.2 fits) (subst (λ (x : Op). length (front ++ x ∷ back) ≤ 256) p.2 short) rest)

  takes-ops : (back : List Op) → Rest back
  takes-ops [] false front names fits short = subst (λ (x : List Op). Takes [] d (InScript t front) d (InScript t x)) (sym (append-nil front)) (takes-nothing d (InScript t front))
  takes-ops [] true front names fits short = subst (λ (x : List Op). Takes [] d (InScript t front) d (InScript t x)) (sym (append-nil front)) (takes-nothing d (InScript t front))
  takes-ops (o ∷ back) false front names fits short =
      let p = and_parts (op_names (declared w) o) (list_all (op_names (declared w)) back) names in
      takes-step o back front (is_wait o) refl p.0 p.1 fits short (takes-ops back)
  takes-ops (o ∷ back) true front names fits short =
      let p = and_parts (op_names (declared w) o) (list_all (op_names (declared w)) back) names in
      let next = front ++ o ∷ [] in
      let e : next ++ back ≡ front ++ o ∷ back = append_assoc front (o ∷ []) back in
      subst (λ (l : List Op). Takes (lines_text (operation_lines w false back)) d (InScript t next) d (InScript t l)) e
      (takes-ops back false next p.1 (subst EachOpFits (sym e) fits) (subst (λ (l : List Op). length l ≤ 256) (sym e) short))

  -- the operations and the line that closes the block
  pub takes-body : (ops : List Op) → list_all (op_names (declared w)) ops ≡ true → EachOpFits ops → length ops ≤ 256 → length (held_by ops) ≡ 0
      → Takes (lines_text (operation_lines w false ops) ++ line_text (codes "end" ∷ [])) d (InScript t []) (with_script d t ops) Outside
  takes-body ops names fits short released =
      takes-both _ _ d d (with_script d t ops) (InScript t []) (InScript t ops) Outside
      (takes-ops ops false [] names fits short) (takes-close d t ops released)
