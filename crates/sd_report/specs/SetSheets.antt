-- The table of the tasks of a set as comma-separated rows: one for each number, in the columns of all rows.
-- Source: RFC 4180 (comma-separated values).
use Rattle.std.specs.Prelude.{ℕ, List, [], ◌∷◌, ◌++◌, codes, Option, Some, None}
use Rattle.std.specs.List.{flat_map}
use Rattle.csv.specs.Writing.{default_writer, row_text}
use Rattle.sd_types.specs.declared.works.Work.{Work}
use Rattle.sd_state.specs.Texts.{chan_name, thread_name}
use Rattle.sd_text.specs.Numbers.{digits_if}
use Rattle.sd_deadlines.specs.declared.means.Mean.{Mean}
use Rattle.sd_deadlines.specs.declared.task_table.Task.{Task}
use Rattle.sd_deadlines.specs.declared.task_table.TaskLine.{TaskLine}
use Rattle.sd_deadlines.specs.Means.{mean_of}
use Rattle.sd_report.specs.SetTables.{unfinished}
use Rattle.sd_report.specs.Tables.{longest_ticks}

-- of which task, what is measured, and of which semaphore
abbrev pub set_words : Work → Task → List ℕ → List (List ℕ)
set_words w x measure = codes "set task" ∷ thread_name w x.thread ∷ measure ∷ chan_name w x.sema.0 ∷ []

-- a number and ticks, and no priority
abbrev pub set_numbers : Option ℕ → Option ℕ → List (List ℕ)
set_numbers number ticks = digits_if number ∷ digits_if ticks ∷ [] ∷ []

-- the columns of the longest have nothing to say
abbrev pub no_longest : List (List ℕ)
no_longest = [] ∷ [] ∷ [] ∷ [] ∷ []

unfoldable pub set_row : Work → Task → List ℕ → Option ℕ → Option ℕ → List ℕ
set_row w x measure number ticks = row_text default_writer (set_words w x measure ++ set_numbers number ticks ++ no_longest)

abbrev pub mean_jobs : Option Mean → Option ℕ
mean_jobs None = None
mean_jobs (Some m) = Some m.jobs

abbrev pub mean_ticks : Option Mean → Option ℕ
mean_ticks None = None
mean_ticks (Some m) = Some m.ticks

unfoldable pub job_rows : Work → TaskLine → List ℕ
job_rows w x =
    set_row w x.task (codes "deadline") None x.task.deadline ++ set_row w x.task (codes "released") (Some x.released) None
    ++ set_row w x.task (codes "complete") (Some x.responses.number) None ++ set_row w x.task (codes "unfinished") (Some (unfinished x)) None

unfoldable pub response_rows : Work → TaskLine → List ℕ
response_rows w x =
    set_row w x.task (codes "least") None x.least
    ++ set_row w x.task (codes "mean") (mean_jobs (mean_of x.responses)) (mean_ticks (mean_of x.responses))
    ++ set_row w x.task (codes "greatest") None (longest_ticks x.responses.longest)

unfoldable pub miss_rows : Work → TaskLine → List ℕ
miss_rows w x =
    set_row w x.task (codes "misses") (Some x.misses) None ++ set_row w x.task (codes "first miss") None x.first_miss
    ++ set_row w x.task (codes "blocked") None x.blocked

unfoldable pub line_rows : Work → TaskLine → List ℕ
line_rows w x = job_rows w x ++ response_rows w x ++ miss_rows w x

unfoldable pub set_rows : Work → List TaskLine → List ℕ
set_rows w lines = flat_map (line_rows w) lines
