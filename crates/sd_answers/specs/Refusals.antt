-- The lines of a workload and of a journal that are refused.
-- Source: this project's own.
use Rattle.std.specs.Prelude.{ℕ, List, [], ◌++◌, codes, decimal, Option, Some, None}
use Rattle.sd_text.specs.Numbers.{digits_if}
use Rattle.sd_declare.specs.declared.causes.WorkCause.{WorkCause}
use Rattle.sd_declare.specs.declared.causes.WorkCause.TheVariants.{Syntax, Unknown, Twice, Range, Table, Script, Sets, Limits}
use Rattle.sd_script.specs.declared.faults.ScriptFault.{ScriptFault}
use Rattle.sd_script.specs.declared.faults.ScriptFault.TheVariants as script
use Rattle.sd_dispadmin.specs.declared.fault.TableFault.{TableFault}
use Rattle.sd_dispadmin.specs.declared.fault.TableFault.TheVariants as table
use Rattle.sd_answers.specs.declared.answers.JournalFault.{JournalFault}
use Rattle.sd_answers.specs.declared.answers.JournalFault.TheVariants.{NotAnEntry, Illegal, Incomplete, Tail}

abbrev pub table_words : TableFault → List ℕ
table_words (table.NotANumber line) = codes "table: not a number"
table_words (table.Range line column) = codes "table: range in column "
table_words (table.Rows found) = codes "table: rows: "
table_words (table.Resolution line) = codes "table: resolution"

abbrev pub script_words : ScriptFault → List ℕ
script_words (script.Unbalanced op) = codes "script: unbalanced"
script_words (script.TooManyHeld op) = codes "script: too many held"
script_words script.HeldAtExit = codes "script: held at exit"
script_words script.TooLong = codes "script: too long"
script_words (script.AlreadyHeld op) = codes "script: already held"
script_words (script.Unpaired op) = codes "script: unpaired"

abbrev pub cause_words : WorkCause → List ℕ
cause_words Syntax = codes "syntax"
cause_words Unknown = codes "unknown"
cause_words Twice = codes "twice"
cause_words Range = codes "range"
cause_words (Table fault) = table_words fault
cause_words (Script fault) = script_words fault
cause_words Sets = codes "sets"
cause_words Limits = codes "limits"

-- the number behind the words, where there is one
abbrev pub table_number : TableFault → Option ℕ
table_number (table.Range line column) = Some column
table_number (table.Rows found) = Some found
table_number _ = None

abbrev pub cause_number : WorkCause → Option ℕ
cause_number (Table fault) = table_number fault
cause_number _ = None

abbrev pub refusal_line : ℕ → WorkCause → List ℕ
refusal_line line cause =
    codes "refused: line " ++ (decimal line ++ (codes ": " ++ (cause_words cause ++ (digits_if (cause_number cause) ++ codes "\n"))))

-- what stands before the number of a journal's fault
abbrev pub words_before : JournalFault → List ℕ
words_before (NotAnEntry line) = codes "line "
words_before (Illegal number) = codes "entry "
words_before (Incomplete cpu) = codes "incomplete: c"
words_before (Tail line) = codes "line "

abbrev pub journal_number : JournalFault → ℕ
journal_number (NotAnEntry line) = line
journal_number (Illegal number) = number
journal_number (Incomplete cpu) = cpu.0
journal_number (Tail line) = line

abbrev pub words_after : JournalFault → List ℕ
words_after (NotAnEntry line) = codes ": not an entry\n"
words_after (Illegal number) = codes ": illegal\n"
words_after (Incomplete cpu) = codes "\n"
words_after (Tail line) = codes ": accounts\n"

abbrev pub journal_line : JournalFault → List ℕ
journal_line fault = codes "journal: " ++ (words_before fault ++ (decimal (journal_number fault) ++ words_after fault))
