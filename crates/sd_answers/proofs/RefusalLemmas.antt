-- The lines of refusals are one line each, and their words are short.
use Rattle.std.proofs.Common.{◌≡◌, ℕ, ◌≤◌, true, List, [], ◌++◌, length, Option, None, Some, refl, ap, ◌∙◌, arith, append-nil, length-append, lit≤}
use Rattle.std.specs.Prelude.{codes, decimal}
use Rattle.sd_declare.specs.declared.causes.WorkCause.{WorkCause}
use Rattle.sd_declare.specs.declared.causes.WorkCause.TheVariants.{Range, Table, Script}
use Rattle.sd_script.specs.declared.faults.ScriptFault.{ScriptFault}
use Rattle.sd_script.specs.declared.faults.ScriptFault.TheVariants as script
use Rattle.sd_dispadmin.specs.declared.fault.TableFault.{TableFault}
use Rattle.sd_dispadmin.specs.declared.fault.TableFault.TheVariants as table
use Rattle.sd_text.specs.Lines.{is_line, IsOneLine}
use Rattle.sd_text.proofs.NumberLemmas.{decimal-line}
use Rattle.sd_text.proofs.PieceLemmas.{one_line-append}
use Rattle.sd_text.specs.Numbers.{digits_if}
use Rattle.sd_answers.specs.Refusals.{cause_number, cause_words, journal_line, journal_number, refusal_line, script_words, table_words, words_after, words_before}
use Rattle.sd_answers.specs.declared.answers.JournalFault.{JournalFault}
use Rattle.sd_answers.specs.declared.answers.JournalFault.TheVariants.{NotAnEntry, Illegal, Incomplete, Tail}

-- words of a line, of which there are few
abbrev IsShort : List ℕ → Type 0
IsShort words = (is_line words ≡ true) × (length words ≤ 24)

table-short : (f : TableFault) → IsShort (table_words f)
table-short (table.NotANumber line) = (refl, lit≤ tt)
table-short (table.Range line column) = (refl, lit≤ tt)
table-short (table.Rows found) = (refl, lit≤ tt)
table-short (table.Resolution line) = (refl, lit≤ tt)

script-short : (f : ScriptFault) → IsShort (script_words f)
script-short (script.Unbalanced op) = (refl, lit≤ tt)
script-short f = (refl, lit≤ tt)

pub cause-short : (c : WorkCause) → IsShort (cause_words c)
cause-short (Table f) = table-short f
cause-short (Script f) = script-short f
cause-short c = (refl, lit≤ tt)

digits-line : (n : Option ℕ) → is_line (digits_if n) ≡ true
digits-line None = refl
digits-line (Some n) = decimal-line n

pub refusal-one_line : (line : ℕ) (cause : WorkCause) → IsOneLine (refusal_line line cause)
refusal-one_line line cause =
    one_line-append (codes "refused: line ") _ refl (one_line-append (decimal line) _ (decimal-line line)
    (one_line-append (codes ": ") _ refl (one_line-append (cause_words cause) _ (cause-short cause).0
    (one_line-append (digits_if (cause_number cause)) (codes "\n") (digits-line (cause_number cause)) refl))))

pub before-short : (f : JournalFault) → IsShort (words_before f)
before-short (NotAnEntry line) = (refl, lit≤ tt)
before-short (Illegal number) = (refl, lit≤ tt)
before-short (Incomplete cpu) = (refl, lit≤ tt)
before-short (Tail line) = (refl, lit≤ tt)

pub after-short : (f : JournalFault) → IsOneLine (words_after f) × (length (words_after f) ≤ 24)
after-short (NotAnEntry line) = (refl, lit≤ tt)
after-short (Illegal number) = (refl, lit≤ tt)
after-short (Incomplete cpu) = (refl, lit≤ tt)
after-short (Tail line) = (refl, lit≤ tt)

pub journal-one_line : (f : JournalFault) → IsOneLine (journal_line f)
journal-one_line f =
    one_line-append (codes "journal: ") _ refl (one_line-append (words_before f) _ (before-short f).0
    (one_line-append (decimal (journal_number f)) (words_after f) (decimal-line (journal_number f)) (after-short f).0))

-- ---- the parts of which these lines are put together

pub refusal-same : (line : ℕ) (cause : WorkCause) (number words digits : List ℕ) → number ≡ decimal line → words ≡ cause_words cause
    → digits ≡ digits_if (cause_number cause)
    → codes "refused: line " ++ (number ++ (codes ": " ++ (words ++ (digits ++ codes "\n")))) ≡ refusal_line line cause
refusal-same line cause number words digits e f g =
    ap (λ (x : List ℕ). codes "refused: line " ++ (x ++ (codes ": " ++ (words ++ (digits ++ codes "\n"))))) e
    ∙ ap (λ (x : List ℕ). codes "refused: line " ++ (decimal line ++ (codes ": " ++ (x ++ (digits ++ codes "\n"))))) f
    ∙ ap (λ (x : List ℕ). codes "refused: line " ++ (decimal line ++ (codes ": " ++ (cause_words cause ++ (x ++ codes "\n"))))) g

pub refusal-length : (number words digits : List ℕ) → length number ≤ 40 → length words ≤ 24 → length digits ≤ 40
    → length (codes "refused: line " ++ (number ++ (codes ": " ++ (words ++ (digits ++ codes "\n"))))) ≤ 128
refusal-length number words digits n w d =
    omega (arith, length-append number (codes ": " ++ (words ++ (digits ++ codes "\n"))), length-append words (digits ++ codes "\n"), length-append digits (codes "\n"))

pub journal-same : (f : JournalFault) (before number behind : List ℕ) → before ≡ words_before f → number ≡ decimal (journal_number f) → behind ≡ words_after f
    → codes "journal: " ++ (before ++ (number ++ (behind ++ []))) ≡ journal_line f
journal-same f before number behind b n a =
    ap (λ (x : List ℕ). codes "journal: " ++ (x ++ (number ++ (behind ++ [])))) b
    ∙ ap (λ (x : List ℕ). codes "journal: " ++ (words_before f ++ (x ++ (behind ++ [])))) n
    ∙ ap (λ (x : List ℕ). codes "journal: " ++ (words_before f ++ (decimal (journal_number f) ++ x))) (append-nil behind ∙ a)

pub journal-length : (before number behind : List ℕ) → length before ≤ 24 → length number ≤ 40 → length behind ≤ 24
    → length (codes "journal: " ++ (before ++ (number ++ (behind ++ [])))) ≤ 128
journal-length before number behind b n a =
    omega (arith, length-append before (number ++ (behind ++ [])), length-append number (behind ++ []), length-append behind [])
