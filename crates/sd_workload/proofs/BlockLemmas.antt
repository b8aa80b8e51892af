-- The verdict on a table's block, by what the reader found in it.
use Rattle.std.proofs.Common.{◌≡◌, ℕ, ◌+◌, ◌-◌, ◌<◌, ◌≤◌, Bool, true, false, cond, inl, inr, List, [], ◌++◌, length, take, get_or, Option, Some, None, refl, sym, ap, ◌∙◌, subst, arith}
use Rattle.std.specs.Prelude.{IfSome, IfNone, is_some, is_none, ◌||◌}
use Rattle.std.specs.List.{list_any}
use Rattle.std.specs.Option.{option_map}
use Rattle.std.proofs.lemmas.Option.{same_Some, none-some}
use Rattle.sd_dispadmin.specs.declared.columns.Column.{Column}
use Rattle.sd_dispadmin.specs.declared.fault.TableFault.{TableFault}
use Rattle.sd_dispadmin.specs.declared.fault.TableFault.TheVariants.{NotANumber, Range, Rows, Resolution}
use Rattle.sd_dispadmin.specs.TableText.{word_lines, fault_at, rows_in, IsTableText, IsTableFault, IsRowsFault, is_res_line, is_row_line, res_of_line, has_numbers, numbers_of, column_outside}
use Rattle.sd_lines.specs.declared.statements.TableClass.{TableClass}
use Rattle.sd_lines.specs.Words.{Line}
use Rattle.sd_declare.specs.declared.causes.WorkCause.TheVariants.{Table, Syntax}
use Rattle.sd_declare.specs.Declarations.{Declarations}
use Rattle.sd_workload.specs.declared.fault.WorkFault.{WorkFault}
use Rattle.sd_workload.specs.declared.fault.WorkFault.TheVariants.{At}
use Rattle.sd_workload.specs.declared.line_starts.LineStart.{LineStart}
use Rattle.sd_workload.specs.declared.tables.TableBlock.{TableBlock}
use Rattle.sd_workload.specs.LineStarts.{lines_from, judged_from, IsFault}
use Rattle.sd_workload.specs.Tables.{Follows, IsBlock, line_of}
use Rattle.sd_workload.specs.Texts.{Outside, InTable, format_of, with_table, Refuses, judged}
use Rattle.sd_workload.proofs.TableLemmas.{table-fault, table-clean, table-closed, table-rows, table-open}

by-tests : (n : ℕ) (a b c d : Bool) (o : Option ℕ) (fault : TableFault)
    → cond a (cond b (Some (Resolution n)) None) (cond c (cond d (option_map (λ k. Range n (k + 1)) o) (Some (NotANumber n))) None) ≡ Some fault
    → line_of fault ≡ Some n
by-tests n true true c d o fault e = ap line_of (sym (same_Some _ fault e))
by-tests n true false c d o fault e = absurd (none-some fault e)
by-tests n false b true true (Some k) fault e = ap line_of (sym (same_Some _ fault e))
by-tests n false b true true None fault e = absurd (none-some fault e)
by-tests n false b true false o fault e = ap line_of (sym (same_Some _ fault e))
by-tests n false b false d o fault e = absurd (none-some fault e)

-- the fault of a line names it
fault-line : (columns : List Column) (lines : List Line) (i : ℕ) (fault : TableFault) → fault_at columns lines i ≡ Some fault → line_of fault ≡ Some (i + 1)
unfolding fault_at
fault-line columns lines i fault e =
    let line : Line = get_or lines i [] in
    by-tests (i + 1) (is_res_line line) (is_none (res_of_line line) || list_any is_res_line (take i lines) || list_any is_row_line (take i lines))
    (is_row_line line) (has_numbers columns line) (column_outside columns (numbers_of line)) fault e

-- the line of a fault is one of the block
pub fault-bound : (class : TableClass) (text : List ℕ) (fault : TableFault) (n e : ℕ) → IsTableFault (format_of class) text fault → e ≡ n + length (word_lines text)
    → IfSome (line_of fault) (λ line. (1 ≤ line) × (n + line ≤ e + 1))
fault-bound class text fault n e (inl f) end =
    subst (λ (o : Option ℕ). IfSome o (λ line. (1 ≤ line) × (n + line ≤ e + 1))) (sym (fault-line (format_of class).columns (word_lines text) f.0 fault f.3))
    (omega arith, omega (arith, f.1, end))
fault-bound class text fault n e (inr f) end =
    subst (λ (o : Option ℕ). IfSome o (λ line. (1 ≤ line) × (n + line ≤ e + 1))) (sym (ap line_of f.2)) tt

start : (text : List ℕ) (at : LineStart) (block : TableBlock) (d : Declarations) (class : TableClass) (b : IsBlock text at block)
    → judged_from text at d (InTable class []) ≡ judged at.number d (InTable class []) (word_lines block.text.items ++ b.rest)
start text at block d class b = ap (judged at.number d (InTable class [])) b.lines

-- no line is at fault, up to the end of the block
clean : (text : List ℕ) (at : LineStart) (block : TableBlock) (d : Declarations) (class : TableClass) (b : IsBlock text at block)
    → ((i : ℕ) → i < length (word_lines block.text.items) → fault_at (format_of class).columns (word_lines block.text.items) i ≡ None)
    → judged_from text at d (InTable class []) ≡ judged block.end d (InTable class (word_lines block.text.items)) b.rest
clean text at block d class b none =
    start text at block d class b
    ∙ table-clean at.number block.end d class (word_lines block.text.items) b.rest b.closes b.end none

-- the end of the input in a block
pub block-open : (text : List ℕ) (at : LineStart) (block : TableBlock) (d : Declarations) (class : TableClass) → IsBlock text at block
    → ((i : ℕ) → i < length (word_lines block.text.items) → fault_at (format_of class).columns (word_lines block.text.items) i ≡ None)
    → block.below ≡ None → judged_from text at d (InTable class []) ≡ Refuses block.end Syntax
block-open text at block d class b none below =
    clean text at block d class b none
    ∙ table-open block.end d class (word_lines block.text.items) b.rest (subst (λ (o : Option LineStart). Follows text o b.rest) below b.follows)

-- a block that gives a table
pub block-done : (text : List ℕ) (at to : LineStart) (block : TableBlock) (d : Declarations) (class : TableClass) → IsBlock text at block
    → IsTableText (format_of class) block.text.items → block.below ≡ Some to
    → judged_from text at d (InTable class []) ≡ judged_from text to (with_table d class (word_lines block.text.items)) Outside
block-done text at to block d class b given below =
    let f = subst (λ (o : Option LineStart). Follows text o b.rest) below b.follows in
    let number = subst (λ (o : Option LineStart). IfSome o (λ p. p.number ≡ block.end + 1)) below b.numbered in
    clean text at block d class b given.clean
    ∙ table-closed block.end to.number d class (word_lines block.text.items) b.rest (lines_from text to) f.0 f.1 f.2 number given.rows

rows-closed : (text : List ℕ) (at : LineStart) (block : TableBlock) (d : Declarations) (class : TableClass) (o : Option LineStart) → IsBlock text at block
    → IsRowsFault (format_of class) (word_lines block.text.items) (Rows (length (rows_in (word_lines block.text.items)))) → block.below ≡ o
    → (closed : Bool) → closed ≡ is_some block.below
    → (f : WorkFault) → (closed ≡ true → f ≡ At block.end (Table (Rows (length (rows_in (word_lines block.text.items)))))) → (closed ≡ false → f ≡ At block.end Syntax)
    → IsFault (judged_from text at d (InTable class [])) f
rows-closed text at block d class (Some to) b r below closed tells f some none =
    let g = subst (λ (o : Option LineStart). Follows text o b.rest) below b.follows in
    let is : f ≡ At block.end (Table (Rows (length (rows_in (word_lines block.text.items))))) = some (tells ∙ ap is_some below) in
    subst (IsFault (judged_from text at d (InTable class []))) (sym is)
    (clean text at block d class b r.0
    ∙ table-rows block.end d class (word_lines block.text.items) b.rest (lines_from text to) g.0 g.1 g.2 r.1)
rows-closed text at block d class None b r below closed tells f some none =
    let is : f ≡ At block.end Syntax = none (tells ∙ ap is_some below) in
    subst (IsFault (judged_from text at d (InTable class []))) (sym is) (block-open text at block d class b r.0 below)

-- a block with a fault
pub block-refused : (text : List ℕ) (at : LineStart) (block : TableBlock) (d : Declarations) (class : TableClass) (fault : TableFault) → IsBlock text at block
    → IsTableFault (format_of class) block.text.items fault → (closed : Bool) → closed ≡ is_some block.below → (f : WorkFault)
    → IfSome (line_of fault) (λ line. f ≡ At (at.number + line - 1) (Table fault))
    → IfNone (line_of fault) (closed ≡ true → f ≡ At block.end (Table fault))
    → IfNone (line_of fault) (closed ≡ false → f ≡ At block.end Syntax)
    → IsFault (judged_from text at d (InTable class [])) f
block-refused text at block d class fault b (inl r) closed tells f line rows unclosed =
    let named = fault-line (format_of class).columns (word_lines block.text.items) r.0 fault r.3 in
    let is : f ≡ At (at.number + (r.0 + 1) - 1) (Table fault) = subst (λ (o : Option ℕ). IfSome o (λ n. f ≡ At (at.number + n - 1) (Table fault))) named line in
    let sum : at.number + (r.0 + 1) - 1 ≡ at.number + r.0 = omega arith in
    subst (IsFault (judged_from text at d (InTable class []))) (sym (is ∙ ap (λ n. At n (Table fault)) sum))
    (start text at block d class b ∙ table-fault at.number d class (word_lines block.text.items) b.rest r.0 fault b.closes r.1 r.2 r.3)
block-refused text at block d class fault b (inr r) closed tells f line rows unclosed =
    let named : line_of fault ≡ None = ap line_of r.2 in
    let some = subst (λ (o : Option ℕ). IfNone o (closed ≡ true → f ≡ At block.end (Table fault))) named rows in
    let none = subst (λ (o : Option ℕ). IfNone o (closed ≡ false → f ≡ At block.end Syntax)) named unclosed in
    rows-closed text at block d class block.below b (r.0, r.1, refl) refl closed tells f (λ h. some h ∙ ap (λ x. At block.end (Table x)) r.2) none
