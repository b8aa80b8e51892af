-- The report as a table.
-- Source: this project's own.
use Rattle.std.specs.Prelude.{ℕ, ◌==◌, ◌||◌, nat_le, List, [], ◌++◌, length, codes, decimal, Option, Some, None, if◌then◌else◌}
use Rattle.std.specs.List.{flat_map}
use Rattle.sd_types.specs.declared.works.Work.{Work}
use Rattle.sd_state.specs.declared.states.State.{State}
use Rattle.sd_stretches.specs.declared.histories.History.{History}
use Rattle.sd_statistics.specs.declared.rows.Row.{Row}
use Rattle.sd_statistics.specs.declared.spans.Span.{Span}
use Rattle.sd_statistics.specs.Cpus.{cpu_rows}
use Rattle.sd_statistics.specs.Locks.{lock_rows}
use Rattle.sd_statistics.specs.Spans.{ticks_of}
use Rattle.sd_statistics.specs.Tasks.{task_rows}
use Rattle.sd_statistics.specs.Threads.{thread_rows}
use Rattle.sd_report.specs.Cells.{cell, left, right}
use Rattle.sd_report.specs.Words.{holder, measure_word, row_object, subject_name}

unfoldable pub row_words : Work → Row → List ℕ
row_words w x = left 17 (subject_name w x.subject) ++ left 15 (measure_word x.measure) ++ left 17 (row_object w x)

abbrev pub longest_ticks : Option Span → Option ℕ
longest_ticks None = None
longest_ticks (Some x) = Some (ticks_of x)

abbrev pub longest_first : Option Span → Option ℕ
longest_first None = None
longest_first (Some x) = Some x.first

abbrev pub longest_last : Option Span → Option ℕ
longest_last None = None
longest_last (Some x) = Some x.last

-- how long the longest is, the first entry that was made in it, and the one that ended it
unfoldable pub longest_cells : Option Span → List ℕ
longest_cells x = right 9 (cell (longest_ticks x)) ++ right 12 (cell (longest_first x)) ++ right 10 (cell (longest_last x))

unfoldable pub row_cells : Row → List ℕ
row_cells x =
    right 8 (cell x.figures.number) ++ right 9 (cell x.figures.ticks) ++ right 10 (cell x.figures.priority) ++ longest_cells x.figures.longest

-- whose the longest is, where that is said
abbrev pub by_text : List ℕ → List ℕ
by_text name = if length name == 0 then [] else codes "  by " ++ name

unfoldable pub table_line : Work → Row → List ℕ
table_line w x = row_words w x ++ row_cells x ++ by_text (holder w x) ++ codes "\n"

unfoldable pub head_line : List ℕ
head_line =
    left 17 (codes "who") ++ left 15 (codes "what") ++ left 17 (codes "of") ++ right 8 (codes "number") ++ right 9 (codes "ticks") ++ right 10 (codes "priority")
    ++ right 9 (codes "longest") ++ right 12 (codes "from entry") ++ right 10 (codes "to entry") ++ codes "\n"

-- the rows of one kind under their title, where there are any
unfoldable pub section : Work → List ℕ → List Row → List ℕ
section w title rows = if length rows == 0 then [] else title ++ flat_map (table_line w) rows

unfoldable pub ticks_line : Work → History → List ℕ
ticks_line w h = (codes "ticks " ++ decimal w.limit) ++ (codes ", entries " ++ decimal h.entries) ++ codes "\n\n"

unfoldable pub thread_section : Work → History → List ℕ
thread_section w h = section w (codes "\nthreads\n") (thread_rows w h)

-- on several processors: what their counts mean for tasks
unfoldable pub skew_line : Work → List Row → List ℕ
skew_line w rows =
    if nat_le w.cpus 1 || length rows == 0 then []
    else codes "a task that is not bound: each time a job comes to another processor, its response may become a tick more or less\n"

unfoldable pub tasks_part : Work → List Row → List ℕ
tasks_part w rows = section w (codes "\ntasks\n") rows ++ skew_line w rows

unfoldable pub task_section : Work → History → State → List ℕ
task_section w h s = tasks_part w (task_rows w h s)

unfoldable pub lock_section : Work → History → List ℕ
lock_section w h = section w (codes "\nlocks\n") (lock_rows w h)

unfoldable pub cpu_section : Work → History → List ℕ
cpu_section w h = section w (codes "\nprocessors\n") (cpu_rows w h)

-- the report of a run with this history and this last state
unfoldable pub report_text : Work → History → State → List ℕ
report_text w h s = ticks_line w h ++ head_line ++ thread_section w h ++ task_section w h s ++ lock_section w h ++ cpu_section w h
