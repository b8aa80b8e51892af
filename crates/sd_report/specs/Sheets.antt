-- The report as comma-separated rows.
-- Source: RFC 4180 (comma-separated values).
use Rattle.std.specs.Prelude.{◌≡◌, ℕ, List, [], ◌∷◌, ◌++◌, codes}
use Rattle.std.specs.List.{flat_map}
use Rattle.csv.specs.Records.{Row as Record, fields_of, partial_of}
use Rattle.csv.specs.Writing.{default_writer, row_text}
use Rattle.sd_types.specs.declared.works.Work.{Work}
use Rattle.sd_state.specs.declared.states.State.{State}
use Rattle.sd_stretches.specs.declared.histories.History.{History}
use Rattle.sd_statistics.specs.declared.rows.Row.{Row}
use Rattle.sd_statistics.specs.Cpus.{cpu_rows}
use Rattle.sd_statistics.specs.Locks.{lock_rows}
use Rattle.sd_statistics.specs.Tasks.{task_rows}
use Rattle.sd_statistics.specs.Threads.{thread_rows}
use Rattle.sd_text.specs.Numbers.{digits_if}
use Rattle.sd_report.specs.Words.{holder, measure_word, row_object, subject_name, subject_word}
use Rattle.sd_report.specs.Tables.{longest_first, longest_last, longest_ticks}

-- a record of these fields, and none begun
abbrev pub HasFields : Record → List (List ℕ) → Type 0
HasFields r xs = (fields_of r ≡ xs) × (partial_of r ≡ [])

-- of whom a row speaks, what it measures, and of which lock or semaphore
abbrev pub word_fields : Work → Row → List (List ℕ)
word_fields w x = subject_word x.subject ∷ subject_name w x.subject ∷ measure_word x.measure ∷ row_object w x ∷ []

-- its numbers
abbrev pub number_fields : Row → List (List ℕ)
number_fields x = digits_if x.figures.number ∷ digits_if x.figures.ticks ∷ digits_if x.figures.priority ∷ []

-- how long the longest is, the first entry that was made in it and the one that ended it, and whose it is
abbrev pub longest_fields : Work → Row → List (List ℕ)
longest_fields w x =
    digits_if (longest_ticks x.figures.longest) ∷ digits_if (longest_first x.figures.longest) ∷ digits_if (longest_last x.figures.longest) ∷ holder w x ∷ []

unfoldable pub sheet_row : Work → Row → List ℕ
sheet_row w x = row_text default_writer (word_fields w x ++ number_fields x ++ longest_fields w x)

-- the names of the fields
unfoldable pub head_row : List ℕ
head_row = codes "kind,name,measure,of,number,ticks,priority,longest,from entry,to entry,by\n"

unfoldable pub rows_text : Work → List Row → List ℕ
rows_text w rows = flat_map (sheet_row w) rows

unfoldable pub thread_sheet : Work → History → List ℕ
thread_sheet w h = rows_text w (thread_rows w h)

unfoldable pub task_sheet : Work → History → State → List ℕ
task_sheet w h s = rows_text w (task_rows w h s)

unfoldable pub lock_sheet : Work → History → List ℕ
lock_sheet w h = rows_text w (lock_rows w h)

unfoldable pub cpu_sheet : Work → History → List ℕ
cpu_sheet w h = rows_text w (cpu_rows w h)

-- of a run with this history and this last state
unfoldable pub sheet_text : Work → History → State → List ℕ
sheet_text w h s = head_row ++ thread_sheet w h ++ task_sheet w h s ++ lock_sheet w h ++ cpu_sheet w h
