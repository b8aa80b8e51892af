-- The verdict on the lines of a table's block.
use Rattle.std.proofs.Common.{◌≡◌, ℕ, zero, suc, ◌+◌, ◌<◌, ◌≤◌, Bool, true, false, not, List, [], ◌∷◌, ◌++◌, length, take, drop, get_or, Option, Some, None, refl, sym, ap, ◌∙◌, arith}
use Rattle.std.specs.List.{list_all}
use Rattle.std.specs.Option.{option_map}
use Rattle.std.proofs.lemmas.Bool.{both_ways}
use Rattle.std.proofs.lemmas.List.{drop_more, take_more, take_all, drop_all, length-take-le}
use Rattle.std.proofs.lemmas.List.Folds.{list_all_at}
use Rattle.sd_dispadmin.specs.declared.fault.TableFault.{TableFault}
use Rattle.sd_dispadmin.specs.TableText.{line_fault, fault_at, AreClean, has_rows, rows_in}
use Rattle.sd_dispadmin.specs.declared.fault.TableFault.TheVariants.{Rows}
use Rattle.sd_lines.specs.declared.statements.TableClass.{TableClass}
use Rattle.sd_lines.specs.Words.{Line, is_end}
use Rattle.sd_declare.specs.declared.causes.WorkCause.TheVariants.{Table, Syntax}
use Rattle.sd_declare.specs.Declarations.{Declarations}
use Rattle.sd_workload.specs.Texts.{Outside, InTable, format_of, cause_of, declared_after, block_after, end_cause, with_table, Verdict, Refuses, unless_refused, judged}
use Rattle.sd_workload.proofs.JudgedLemmas.{judged-end, judged-line}

abbrev NoEnd : List Line → Type 0
NoEnd lines = list_all (λ line. not (is_end line)) lines ≡ true

no_end-at : (lines : List Line) (k : ℕ) → k < length lines → NoEnd lines → is_end (get_or lines k []) ≡ false
no_end-at lines k h all = by (is_end (get_or lines k [])) refl
  where
    by : (b : Bool) → is_end (get_or lines k []) ≡ b → is_end (get_or lines k []) ≡ false
    by false e = e
    by true e = absurd (both_ways _ (list_all_at (λ (line : Line). not (is_end line)) lines k [] h (ap not e)) all)

-- one line, which does not close the block
line-inside : (n : ℕ) (d : Declarations) (class : TableClass) (above below : List Line) (line : Line) (o : Option TableFault)
    → is_end line ≡ false → line_fault (format_of class).columns above line (length above + 1) ≡ o
    → judged n d (InTable class above) (line ∷ below) ≡ unless_refused n (option_map Table o) (judged (n + 1) d (InTable class (above ++ line ∷ [])) below)
unfolding cause_of declared_after block_after
line-inside n d class above below line o free fault =
    judged-line n d (InTable class above) (line ∷ below) below line refl
    ∙ rw (free, fault) refl

-- the lines from an index on, below those before it
abbrev from : ℕ → Declarations → TableClass → List Line → List Line → ℕ → Verdict
from n d class lines rest k = judged (n + k) d (InTable class (take k lines)) (drop k lines ++ rest)

from-line : (n : ℕ) (d : Declarations) (class : TableClass) (lines rest : List Line) (k : ℕ) (o : Option TableFault) → NoEnd lines → k < length lines
    → fault_at (format_of class).columns lines k ≡ o
    → from n d class lines rest k ≡ unless_refused (n + k) (option_map Table o) (from n d class lines rest (k + 1))
unfolding fault_at
from-line n d class lines rest k o free h fault =
    let line : Line = get_or lines k [] in
    let len : length (take k lines) ≡ k = length-take-le k lines (omega arith) in
    let sum : n + k + 1 ≡ n + (k + 1) = omega arith in
    ap (λ l. judged (n + k) d (InTable class (take k lines)) (l ++ rest)) (drop_more lines k [] h)
    ∙ line-inside (n + k) d class (take k lines) (drop (k + 1) lines ++ rest) line o (no_end-at lines k h free)
    (ap (λ m. line_fault (format_of class).columns (take k lines) line (m + 1)) len ∙ fault)
    ∙ ap (λ m. unless_refused (n + k) (option_map Table o) (judged m d (InTable class (take k lines ++ line ∷ [])) (drop (k + 1) lines ++ rest))) sum
    ∙ ap (λ l. unless_refused (n + k) (option_map Table o) (judged (n + (k + 1)) d (InTable class l) (drop (k + 1) lines ++ rest))) (sym (take_more lines k [] h))

-- lines without a fault
from-clean : (n : ℕ) (d : Declarations) (class : TableClass) (lines rest : List Line) (k : ℕ) → NoEnd lines → k ≤ length lines
    → AreClean (format_of class).columns lines k → from n d class lines rest 0 ≡ from n d class lines rest k
from-clean n d class lines rest zero free h clean = refl
from-clean n d class lines rest (suc k) free h clean =
    let e : k + 1 ≡ suc k = omega arith in
    from-clean n d class lines rest k free (omega arith) (λ i l. clean i (omega arith))
    ∙ from-line n d class lines rest k None free (omega arith) (clean k (omega arith))
    ∙ ap (from n d class lines rest) e

start : (n : ℕ) (d : Declarations) (class : TableClass) (lines rest : List Line) → judged n d (InTable class []) (lines ++ rest) ≡ from n d class lines rest 0
start n d class lines rest = let e : n + 0 ≡ n = omega arith in rw e refl

-- the first line at fault
pub table-fault : (n : ℕ) (d : Declarations) (class : TableClass) (lines rest : List Line) (k : ℕ) (fault : TableFault) → NoEnd lines → k < length lines
    → AreClean (format_of class).columns lines k → fault_at (format_of class).columns lines k ≡ Some fault
    → judged n d (InTable class []) (lines ++ rest) ≡ Refuses (n + k) (Table fault)
table-fault n d class lines rest k fault free h clean is =
    start n d class lines rest ∙ from-clean n d class lines rest k free (omega arith) clean
    ∙ from-line n d class lines rest k (Some fault) free h is

-- no line is at fault
pub table-clean : (n m : ℕ) (d : Declarations) (class : TableClass) (lines rest : List Line) → NoEnd lines → m ≡ n + length lines
    → AreClean (format_of class).columns lines (length lines)
    → judged n d (InTable class []) (lines ++ rest) ≡ judged m d (InTable class lines) rest
table-clean n m d class lines rest free e clean =
    start n d class lines rest ∙ from-clean n d class lines rest (length lines) free (omega arith) clean
    ∙ ap (λ l. judged (n + length lines) d (InTable class l) (drop (length lines) lines ++ rest)) (take_all (length lines) lines (omega arith))
    ∙ ap (λ l. judged (n + length lines) d (InTable class lines) (l ++ rest)) (drop_all (length lines) lines (omega arith))
    ∙ ap (λ k. judged k d (InTable class lines) rest) (sym e)

-- the line that closes the block
pub table-closed : (n m : ℕ) (d : Declarations) (class : TableClass) (lines rest below : List Line) (line : Line) → rest ≡ line ∷ below
    → is_end line ≡ true → m ≡ n + 1 → has_rows (format_of class) lines ≡ true → judged n d (InTable class lines) rest ≡ judged m (with_table d class lines) Outside below
unfolding cause_of declared_after block_after
table-closed n m d class lines rest below line is end next rows =
    judged-line n d (InTable class lines) rest below line is ∙ rw (end, rows, next) refl

pub table-rows : (n : ℕ) (d : Declarations) (class : TableClass) (lines rest below : List Line) (line : Line) → rest ≡ line ∷ below
    → is_end line ≡ true → has_rows (format_of class) lines ≡ false → judged n d (InTable class lines) rest ≡ Refuses n (Table (Rows (length (rows_in lines))))
unfolding cause_of declared_after block_after
table-rows n d class lines rest below line is end rows =
    judged-line n d (InTable class lines) rest below line is ∙ rw (end, rows) refl

-- the end of the input
pub table-open : (n : ℕ) (d : Declarations) (class : TableClass) (lines rest : List Line) → rest ≡ [] → judged n d (InTable class lines) rest ≡ Refuses n Syntax
unfolding end_cause
table-open n d class lines rest is = judged-end n d (InTable class lines) rest is
