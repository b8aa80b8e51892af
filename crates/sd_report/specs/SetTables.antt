-- The table of the tasks of a set: of each its deadline, its jobs, its responses and what was missed.
-- Source: response-time analysis; the table is this project's own.
use Rattle.std.specs.Prelude.{ℕ, ◌-◌, ◌==◌, List, [], ◌++◌, length, map, codes, decimal, Option, Some, None, if◌then◌else◌}
use Rattle.std.specs.List.{flat_map}
use Rattle.sd_types.specs.declared.works.Work.{Work}
use Rattle.sd_state.specs.declared.states.State.{State}
use Rattle.sd_state.specs.Texts.{thread_name}
use Rattle.sd_stretches.specs.declared.histories.History.{History}
use Rattle.sd_deadlines.specs.declared.means.Mean.{Mean}
use Rattle.sd_deadlines.specs.declared.task_table.Task.{Task}
use Rattle.sd_deadlines.specs.declared.task_table.TaskLine.{TaskLine}
use Rattle.sd_deadlines.specs.Means.{mean_of}
use Rattle.sd_deadlines.specs.TaskTable.{task_line}
use Rattle.sd_report.specs.Cells.{cell, left, right}
use Rattle.sd_report.specs.Tables.{longest_ticks}

-- `ticks/jobs`
abbrev pub mean_cell : Option Mean → List ℕ
mean_cell None = codes "-"
mean_cell (Some m) = decimal m.ticks ++ (codes "/" ++ decimal m.jobs)

-- the jobs that are not complete
abbrev pub unfinished : TaskLine → ℕ
unfinished x = x.released - x.responses.number

unfoldable pub job_cells : TaskLine → List ℕ
job_cells x =
    right 10 (cell x.task.deadline) ++ right 10 (cell (Some x.released)) ++ right 10 (cell (Some x.responses.number)) ++ right 12 (cell (Some (unfinished x)))

unfoldable pub response_cells : TaskLine → List ℕ
response_cells x = right 8 (cell x.least) ++ right 12 (mean_cell (mean_of x.responses)) ++ right 10 (cell (longest_ticks x.responses.longest))

-- how many missed their deadline, when the first of these was released, and how long the job with the greatest response was blocked
unfoldable pub miss_cells : TaskLine → List ℕ
miss_cells x = right 8 (cell (Some x.misses)) ++ right 8 (cell x.first_miss) ++ right 9 (cell x.blocked)

unfoldable pub set_line : Work → TaskLine → List ℕ
set_line w x = left 17 (thread_name w x.task.thread) ++ job_cells x ++ response_cells x ++ miss_cells x ++ codes "\n"

unfoldable pub set_head : List ℕ
set_head =
    left 17 (codes "task") ++ right 10 (codes "deadline") ++ right 10 (codes "released") ++ right 10 (codes "complete") ++ right 12 (codes "unfinished")
    ++ right 8 (codes "least") ++ right 12 (codes "mean") ++ right 10 (codes "greatest") ++ right 8 (codes "misses") ++ right 8 (codes "first") ++ right 9 (codes "blocked")
    ++ codes "\n"

-- what the table says of the tasks, in the order of declaration
unfoldable pub task_lines : Work → History → State → List Task → List TaskLine
task_lines w h s tasks = map (task_line w h s) tasks

-- under its title, where the set has tasks
unfoldable pub set_section : Work → List TaskLine → List ℕ
set_section w lines = if length lines == 0 then [] else codes "\ntasks of the set\n" ++ set_head ++ flat_map (set_line w) lines
