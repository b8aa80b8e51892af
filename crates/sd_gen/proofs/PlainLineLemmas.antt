-- The lines of accepted texts have nothing but blanks and printable bytes before their comments.
use Rattle.std.proofs.Common.{◌≡◌, ℕ, ◌+◌, Bool, true, false, not, ◌&&◌, ◌||◌, cond, drop, filter, List, [], ◌∷◌, length, map, Option, Some, None, refl, sym, ap, ◌∙◌, arith, if◌then◌else◌}
use Rattle.std.specs.Prelude.{codes, nat_lt, nat_eq, is_none}
use Rattle.std.specs.Option.{option_map, option_and_then}
use Rattle.std.specs.List.{list_all, list_any, slice_split, onto_first}
use Rattle.std.proofs.lemmas.Bool.{false≢true, lt-ltb, and_parts, and_from}
use Rattle.std.proofs.lemmas.Bool.Decides.{nat_tests}
use Rattle.std.proofs.lemmas.Option.{none-some}
use Rattle.sd_types.specs.declared.scripts.Op.{Op}
use Rattle.sd_types.specs.declared.works.Work.{Work}
use Rattle.sd_text.specs.Lines.{lines_of}
use Rattle.sd_text.specs.Words.{is_blank, before_comment, runs_of, words_of, is_printable}
use Rattle.sd_text.specs.Numbers.{is_number, number_of, signed_of}
use Rattle.sd_dispadmin.specs.declared.columns.Column.{Column}
use Rattle.sd_dispadmin.specs.declared.fault.TableFault.{TableFault}
use Rattle.sd_dispadmin.specs.declared.fault.TableFault.TheVariants.{NotANumber, Range, Resolution}
use Rattle.sd_dispadmin.specs.TableText.{word_lines, is_res_word, is_res_line, is_row_line, is_unit, res_of_line, res_fault, has_numbers, numbers_of, column_outside, row_fault, line_fault}
use Rattle.sd_lines.specs.Words.{Word, Line, name_of, quantum_of, unless_dash, first, only_word, only, is_done, is_end}
use Rattle.sd_lines.specs.Statements.{Statement, statement_of}
use Rattle.sd_lines.specs.Operations.{Operation, Run, Nap, Sleep, Wake, WakeAll, Enter, Read, Write, Exit, SemaP, SemaV, ts_request, fx_request, sys_request, rt_request, request_of, priocntl_line, cvwait_line, assign_line, pbind_line, thread_operation, chan_operation, lock_operation, operation_of}
use Rattle.sd_declare.specs.declared.causes.WorkCause.{WorkCause}
use Rattle.sd_declare.specs.declared.causes.WorkCause.TheVariants.{Syntax}
use Rattle.sd_declare.specs.declared.causes.WorkCause.TheVariants as cause
use Rattle.sd_declare.specs.Declarations.{Declarations, nothing}
use Rattle.sd_workload.specs.Accepted.{Accepted}
use Rattle.sd_workload.specs.Scripts.{end_fault}
use Rattle.sd_workload.specs.Texts.{Block, Outside, InTable, InScript, stated_cause, format_of, rows_cause, operation_cause, script_cause, unless_done, cause_of, declared_after, block_after, Accepts, judged}
use Rattle.sd_workload.proofs.FitsLemmas.{none-mapped}
use Rattle.sd_canonical.proofs.BlockLemmas.{same-word}
use Rattle.sd_gen.specs.Plain.{may_stand, is_plain_line}
use Rattle.sd_gen.proofs.PlainLemmas.{plain, plains, Reads, read-mapped, read-weaker, read-chosen, read-keyword, leaves-then, first-leaves, only-plain, number-plain, is-number-plain, signed-plain, quantum-plain, name-plain, dash-plain, statement-plain}
use Rattle.sd_canonical.proofs.RangeLemmas.{unrefused}

-- ---- operations

abbrev Plain : Line → Type 0
Plain words = plains words ≡ true

ts-plain : (words : Line) → Reads (ts_request words) (Plain words)
unfolding ts_request
ts-plain words =
    leaves-then (first signed_of words) words _ (first-leaves signed_of signed-plain words) (λ a. read-mapped _ (only signed_of a.1) (Plain a.1) (only-plain signed_of signed-plain a.1))

fx-plain : (words : Line) → Reads (fx_request words) (Plain words)
unfolding fx_request
fx-plain words =
    leaves-then (first signed_of words) words _ (first-leaves signed_of signed-plain words)
    (λ a. leaves-then (first signed_of a.1) a.1 _ (first-leaves signed_of signed-plain a.1) (λ b. read-mapped _ (only quantum_of b.1) (Plain b.1) (only-plain quantum_of quantum-plain b.1)))

sys-plain : (words : Line) → Reads (sys_request words) (Plain words)
unfolding sys_request
sys-plain words = read-mapped _ (only signed_of words) (Plain words) (only-plain signed_of signed-plain words)

rt-plain : (words : Line) → Reads (rt_request words) (Plain words)
unfolding rt_request
rt-plain words =
    leaves-then (first signed_of words) words _ (first-leaves signed_of signed-plain words) (λ a. read-mapped _ (only quantum_of a.1) (Plain a.1) (only-plain quantum_of quantum-plain a.1))

request-plain : (words : Line) → Reads (request_of words) (Plain words)
unfolding request_of
request-plain [] = tt
request-plain (word ∷ words) =
    read-keyword (codes "ts") word words _ _ refl (ts-plain words)
    (read-keyword (codes "fx") word words _ _ refl (fx-plain words)
    (read-keyword (codes "sys") word words _ _ refl (sys-plain words)
    (read-keyword (codes "rt") word words _ None refl (rt-plain words) tt)))

priocntl-plain : (words : Line) → Reads (priocntl_line words) (Plain words)
unfolding priocntl_line
priocntl-plain words = leaves-then (first name_of words) words _ (first-leaves name_of name-plain words) (λ a. read-mapped _ (request_of a.1) (Plain a.1) (request-plain a.1))

cvwait-plain : (words : Line) → Reads (cvwait_line words) (Plain words)
unfolding cvwait_line
cvwait-plain words =
    leaves-then (first name_of words) words _ (first-leaves name_of name-plain words) (λ a. read-mapped _ (only name_of a.1) (Plain a.1) (only-plain name_of name-plain a.1))

assign-plain : (words : Line) → Reads (assign_line words) (Plain words)
unfolding assign_line
assign-plain words =
    leaves-then (first number_of words) words _ (first-leaves number_of number-plain words)
    (λ a. read-mapped _ (only (unless_dash name_of) a.1) (Plain a.1) (only-plain (unless_dash name_of) (dash-plain name_of name-plain) a.1))

pbind-plain : (words : Line) → Reads (pbind_line words) (Plain words)
unfolding pbind_line
pbind-plain words =
    leaves-then (first name_of words) words _ (first-leaves name_of name-plain words)
    (λ a. read-mapped _ (only (unless_dash number_of) a.1) (Plain a.1) (only-plain (unless_dash number_of) (dash-plain number_of number-plain) a.1))

one : (make : Word → Operation) (words : Line) → Reads (option_map make (only name_of words)) (Plain words)
one make words = read-mapped make (only name_of words) (Plain words) (only-plain name_of name-plain words)

one-number : (make : ℕ → Operation) (words : Line) → Reads (option_map make (only number_of words)) (Plain words)
one-number make words = read-mapped make (only number_of words) (Plain words) (only-plain number_of number-plain words)

done-plain : (words : Line) → is_done words ≡ true → Plain words
done-plain [] h = refl
done-plain (word ∷ words) h = absurd (false≢true h)

operation-plain : (line : Line) → Reads (operation_of line) (Plain line)
unfolding operation_of lock_operation chan_operation thread_operation
operation-plain [] = tt
operation-plain (word ∷ words) =
    read-keyword (codes "run") word words _ _ refl (one-number Run words)
    (read-keyword (codes "yield") word words _ _ refl (read-chosen (is_done words) _ None (Plain words) (done-plain words) tt)
    (read-keyword (codes "nap") word words _ _ refl (one-number Nap words)
    (read-keyword (codes "enter") word words _ _ refl (one Enter words)
    (read-keyword (codes "read") word words _ _ refl (one Read words)
    (read-keyword (codes "write") word words _ _ refl (one Write words)
    (read-keyword (codes "exit") word words _ _ refl (one Exit words)
    (read-keyword (codes "cvwait") word words _ _ refl (cvwait-plain words)
    (read-keyword (codes "sleep") word words _ _ refl (one Sleep words)
    (read-keyword (codes "wake") word words _ _ refl (one Wake words)
    (read-keyword (codes "wakeall") word words _ _ refl (one WakeAll words)
    (read-keyword (codes "semap") word words _ _ refl (one SemaP words)
    (read-keyword (codes "semav") word words _ _ refl (one SemaV words)
    (read-keyword (codes "priocntl") word words _ _ refl (priocntl-plain words)
    (read-keyword (codes "assign") word words _ _ refl (assign-plain words)
    (read-keyword (codes "pbind") word words _ None refl (pbind-plain words) tt)))))))))))))))

-- ---- lines of tables

end-plain : (line : Line) → is_end line ≡ true → Plain line
unfolding only_word
end-plain [] h = absurd (false≢true h)
end-plain (word ∷ []) h = let e = same-word word (codes "end") h in ap (λ (w : Word). plains (w ∷ [])) e
end-plain (word ∷ other ∷ words) h = absurd (false≢true h)

res-word : (word : Word) → is_res_word word ≡ true → plain (drop 4 word) ≡ true → plain word ≡ true
unfolding is_res_word
res-word [] h g = refl
res-word (a ∷ []) h g = grind (arith, nat_tests)
res-word (a ∷ b ∷ []) h g = grind (arith, nat_tests)
res-word (a ∷ b ∷ c ∷ []) h g = grind (arith, nat_tests)
res-word (a ∷ b ∷ c ∷ e ∷ rest) h g =
    let p = and_parts (nat_eq a 82 && nat_eq b 69 && nat_eq c 83) (nat_eq e 61) h in
    let q = and_parts (nat_eq a 82 && nat_eq b 69) (nat_eq c 83) p.0 in
    let r = and_parts (nat_eq a 82) (nat_eq b 69) q.0 in
    let first : is_printable a ≡ true = grind (arith, nat_tests, r.0) in
    let second : is_printable b ≡ true = grind (arith, nat_tests, r.1) in
    let third : is_printable c ≡ true = grind (arith, nat_tests, q.1) in
    let fourth : is_printable e ≡ true = grind (arith, nat_tests, p.1) in
    rw (first, second, third, fourth, g) refl

res-number : (word : Word) → is_res_word word ≡ true → Reads (number_of (drop 4 word)) (plain word ≡ true)
res-number word h = read-weaker (number_of (drop 4 word)) (plain (drop 4 word) ≡ true) (plain word ≡ true) (res-word word h) (number-plain (drop 4 word))

unit-plain : (word : Word) (o : Option ℕ) → Reads o (plain word ≡ true) → Reads (option_and_then (λ n. cond (is_unit n) (Some n) None) o) (plain word ≡ true)
unit-plain word None h = tt
unit-plain word (Some n) h = read-chosen (is_unit n) (Some n) None (plain word ≡ true) (λ e. h) tt

res-plain : (line : Line) → Reads (res_of_line line) (Plain line)
res-plain [] = tt
res-plain (word ∷ []) =
    read-chosen (is_res_word word) (option_and_then (λ n. cond (is_unit n) (Some n) None) (number_of (drop 4 word))) None (Plain (word ∷ []))
    (λ h. read-weaker _ (plain word ≡ true) (Plain (word ∷ [])) (λ g. rw g refl) (unit-plain word (number_of (drop 4 word)) (res-number word h))) tt
res-plain (word ∷ other ∷ words) = tt

read-there : {X : Type 0} (o : Option X) (P : Type 0) → Reads o P → is_none o ≡ false → P
read-there None P h none = absurd (false≢true (sym none))
read-there (Some x) P h none = h

no-resolution : (a b c : Bool) (number : ℕ) → cond (a || b || c) (Some (Resolution number)) None ≡ None → a ≡ false
no-resolution true b c number h = absurd (none-some (Resolution number) (sym h))
no-resolution false b c number h = refl

numbers-plain : (line : Line) → list_all is_number line ≡ true → Plain line
numbers-plain [] h = refl
numbers-plain (word ∷ words) h =
    let p = and_parts (is_number word) (list_all is_number words) h in
    rw (is-number-plain word p.0, numbers-plain words p.1) refl

row-numbers : (b : Bool) (o : Option TableFault) (number : ℕ) → cond b o (Some (NotANumber number)) ≡ None → b ≡ true
row-numbers true o number h = refl
row-numbers false o number h = absurd (none-some (NotANumber number) (sym h))

-- a line with a word is that of RES or a row
table-if : (columns : List Column) (above : List Line) (word : Word) (words : Line) (number : ℕ) (b : Bool)
    → cond b (res_fault above (word ∷ words) number) (cond (not b) (row_fault columns (word ∷ words) number) None) ≡ None → Plain (word ∷ words)
table-if columns above word words number true h =
    let line = word ∷ words in
    read-there (res_of_line line) (Plain line) (res-plain line) (no-resolution (is_none (res_of_line line)) (list_any is_res_line above) (list_any is_row_line above) number h)
table-if columns above word words number false h =
    let line = word ∷ words in
    let has = row-numbers (has_numbers columns line) (option_map (λ column. Range number (column + 1)) (column_outside columns (numbers_of line))) number h in
    numbers-plain line (and_parts (nat_eq (length line) (length columns)) (list_all is_number line) has).1

table-plain : (columns : List Column) (above : List Line) (line : Line) (number : ℕ) → line_fault columns above line number ≡ None → Plain line
table-plain columns above [] number h = refl
table-plain columns above (word ∷ words) number h = table-if columns above word words number (is_res_word word) h

-- ---- lines

stated-plain : (d : Declarations) (line : Line) (o : Option Statement) → Reads o (Plain line) → stated_cause d o ≡ None → Plain line
stated-plain d line None h none = absurd (none-some Syntax (sym none))
stated-plain d line (Some s) h none = h

outside-plain : (d : Declarations) (line : Line) → unless_done line (stated_cause d (statement_of line)) ≡ None → Plain line
outside-plain d [] h = refl
outside-plain d (word ∷ words) h = stated-plain d (word ∷ words) (statement_of (word ∷ words)) (statement-plain (word ∷ words)) h

operated-plain : (d : Declarations) (ops : List Op) (line : Line) (o : Option Operation) → Reads o (Plain line) → operation_cause d ops o ≡ None → Plain line
operated-plain d ops line None h none = absurd (none-some Syntax (sym none))
operated-plain d ops line (Some s) h none = h

row-if : (class-columns : List Column) (above : List Line) (line : Line) (c : Option WorkCause) (b : Bool) → is_end line ≡ b
    → cond b c (option_map cause.Table (line_fault class-columns above line (length above + 1))) ≡ None → Plain line
row-if columns above line c true e h = end-plain line e
row-if columns above line c false e h = table-plain columns above line (length above + 1) (none-mapped cause.Table (line_fault columns above line (length above + 1)) h)

script-if : (d : Declarations) (ops : List Op) (line : Line) (c : Option WorkCause) (b : Bool) → is_end line ≡ b → cond b c (operation_cause d ops (operation_of line)) ≡ None → Plain line
script-if d ops line c true e h = end-plain line e
script-if d ops line c false e h = operated-plain d ops line (operation_of line) (operation-plain line) h

script-plain : (d : Declarations) (ops : List Op) (line : Line) → unless_done line (script_cause d ops line) ≡ None → Plain line
script-plain d ops [] h = refl
script-plain d ops (word ∷ words) h = script-if d ops (word ∷ words) (option_map cause.Script (end_fault ops)) (is_end (word ∷ words)) refl h

line-plain : (d : Declarations) (b : Block) (line : Line) → cause_of d b line ≡ None → Plain line
unfolding cause_of
line-plain d Outside line h = outside-plain d line h
line-plain d (InTable class above) line h = row-if (format_of class).columns above line (rows_cause (format_of class) above) (is_end line) refl h
line-plain d (InScript t ops) line h = script-plain d ops line h

lines-plain : (lines : List Line) (n : ℕ) (d e : Declarations) (b : Block) → judged n d b lines ≡ Accepts e → list_all plains lines ≡ true
unfolding judged
lines-plain [] n d e b h = refl
lines-plain (line ∷ lines) n d e b h =
    let p = unrefused n (cause_of d b line) (judged (n + 1) (declared_after d b line) (block_after d b line) lines) e h in
    rw (line-plain d b line p.0, lines-plain lines (n + 1) (declared_after d b line) e (block_after d b line) p.1) refl

-- ---- bytes

abbrev full : List (List ℕ) → List Word
full runs = filter (λ run. nat_lt 0 (length run)) runs

-- a byte that ends no run stands at the front of the first run
abbrev First : List (List ℕ) → Type 0
First runs = (run : List ℕ) × (more : List (List ℕ)) × (runs ≡ run ∷ more)

split-if : (b : ℕ) (c : Bool) (runs : List (List ℕ)) → First runs → First (if c then [] ∷ runs else onto_first b runs)
split-if b true runs p = ([], runs, refl)
split-if b false runs p = (b ∷ p.0, p.1, ap (onto_first b) p.2)

split-first : (bytes : List ℕ) → First (slice_split is_blank bytes)
split-first [] = ([], [], refl)
split-first (b ∷ bs) = split-if b (is_blank b) (slice_split is_blank bs) (split-first bs)

-- the bytes of the full runs are printable, and so are those of all runs
all-runs : (runs : List (List ℕ)) → plains (full runs) ≡ true → plains runs ≡ true
all-runs [] h = refl
all-runs ([] ∷ runs) h = all-runs runs h
all-runs ((b ∷ bs) ∷ runs) h =
    let some : nat_lt 0 (length (b ∷ bs)) ≡ true = lt-ltb _ _ (omega arith) in
    let e : full ((b ∷ bs) ∷ runs) ≡ (b ∷ bs) ∷ full runs = rw some refl in
    let p = and_parts (plain (b ∷ bs)) (plains (full runs)) (sym (ap plains e) ∙ h) in
    and_from (plain (b ∷ bs)) (plains runs) p.0 (all-runs runs p.1)

onto-plain : (b : ℕ) (runs : List (List ℕ)) → First runs → plains (onto_first b runs) ≡ true → (is_printable b ≡ true) × (plains runs ≡ true)
onto-plain b runs p h =
    let e : plains (onto_first b runs) ≡ ((is_printable b && plain p.0) && plains p.1) = ap (λ (rs : List (List ℕ)). plains (onto_first b rs)) p.2 in
    let q = and_parts (is_printable b && plain p.0) (plains p.1) (sym e ∙ h) in
    let r = and_parts (is_printable b) (plain p.0) q.0 in
    (r.0, ap plains p.2 ∙ rw (r.1, q.1) refl)

bytes-if : (b : ℕ) (bs : List ℕ) (c : Bool) → is_blank b ≡ c → plains (if c then [] ∷ slice_split is_blank bs else onto_first b (slice_split is_blank bs)) ≡ true
    → (may_stand b ≡ true) × (plains (slice_split is_blank bs) ≡ true)
bytes-if b bs true e h = (rw e refl, h)
bytes-if b bs false e h = let p = onto-plain b (slice_split is_blank bs) (split-first bs) h in (rw (e, p.0) refl, p.1)

bytes-stand : (bytes : List ℕ) → plains (slice_split is_blank bytes) ≡ true → list_all may_stand bytes ≡ true
bytes-stand [] h = refl
bytes-stand (b ∷ bs) h =
    let p = bytes-if b bs (is_blank b) refl h in
    rw (p.0, bytes-stand bs p.1) refl

line-stands : (line : List ℕ) → plains (words_of line) ≡ true → is_plain_line line ≡ true
unfolding words_of
line-stands line h = bytes-stand (before_comment line) (all-runs (runs_of line) h)

lines-stand : (lines : List (List ℕ)) → list_all plains (map words_of lines) ≡ true → list_all is_plain_line lines ≡ true
lines-stand [] h = refl
lines-stand (line ∷ lines) h =
    let p = and_parts (plains (words_of line)) (list_all plains (map words_of lines)) h in
    rw (line-stands line p.0, lines-stand lines p.1) refl

pub accepted-plain : (text : List ℕ) (w : Work) → Accepted text w → list_all is_plain_line (lines_of text) ≡ true
accepted-plain text w a = lines-stand (lines_of text) (lines-plain (word_lines text) 1 nothing a.declares Outside a.accepted)
