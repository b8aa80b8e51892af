-- The table of jobs: of each when it was released, started and complete, when it was due, and who delayed it.
-- Source: response-time analysis; the table is this project's own.
use Rattle.std.specs.Prelude.{ℕ, ◌+◌, ◌-◌, Bool, List, [], ◌∷◌, ◌++◌, codes, Option, Some, None, if◌then◌else◌}
use Rattle.std.specs.List.{flat_map}
use Rattle.sd_types.specs.declared.numbers.ThreadId.{ThreadId}
use Rattle.sd_types.specs.declared.works.Work.{Work}
use Rattle.sd_state.specs.declared.states.State.{State}
use Rattle.sd_state.specs.Texts.{thread_name}
use Rattle.sd_stretches.specs.declared.changes.Happening.{Happening}
use Rattle.sd_stretches.specs.declared.histories.History.{History}
use Rattle.sd_statistics.specs.declared.jobs.Job.{Job}
use Rattle.sd_statistics.specs.declared.jobs.Point.{Point}
use Rattle.sd_statistics.specs.Jobs.{told_entries}
use Rattle.sd_statistics.specs.Spans.{at_most_u64}
use Rattle.sd_deadlines.specs.declared.job_lines.Delay.{Delay}
use Rattle.sd_deadlines.specs.declared.task_table.Task.{Task}
use Rattle.sd_deadlines.specs.JobLines.{blocks, delayers, preemptions, start}
use Rattle.sd_deadlines.specs.TaskTable.{misses, set_jobs}
use Rattle.sd_report.specs.Cells.{cell, left, right}

abbrev pub point_tick : Option Point → Option ℕ
point_tick None = None
point_tick (Some p) = Some p.tick

-- from its release to its completion
abbrev pub response_ticks : ℕ → Option Point → Option ℕ
response_ticks release None = None
response_ticks release (Some p) = Some (p.tick - release)

-- so many ticks behind its release
abbrev pub due_tick : ℕ → Option ℕ → Option ℕ
due_tick release None = None
due_tick release (Some deadline) = Some (at_most_u64 (release + deadline))

-- whether it missed its deadline, where it has one
abbrev pub missed_word : Option ℕ → Bool → List ℕ
missed_word None missed = codes "-"
missed_word (Some deadline) missed = if missed then codes "yes" else codes "no"

unfoldable pub time_cells : Task → List Happening → Job → List ℕ
time_cells x told job =
    right 9 (cell (Some job.release.tick)) ++ right 9 (cell (start x.thread job told)) ++ right 12 (cell (point_tick job.completion))
    ++ right 10 (cell (response_ticks job.release.tick job.completion))

unfoldable pub due_cells : Task → ℕ → Job → List ℕ
due_cells x end job = right 10 (cell (due_tick job.release.tick x.deadline)) ++ right 8 (missed_word x.deadline (misses x.deadline end job)) ++ codes "  "

abbrev pub name_behind : Work → ThreadId → List ℕ
name_behind w t = codes "," ++ thread_name w t.0

unfoldable pub more_names : Work → List ThreadId → List ℕ
more_names w threads = flat_map (name_behind w) threads

-- names of threads with commas between them, and a dash for none
abbrev pub names : Work → List ThreadId → List ℕ
names w [] = codes "-"
names w (t ∷ ts) = thread_name w t.0 ++ more_names w ts

-- who preempted it, and who owned the locks for which it waited or spun
unfoldable pub delay_cells : Work → List Delay → List Delay → Job → List ℕ
delay_cells w preempted blocked job = left 24 (names w (delayers job preempted)) ++ codes " " ++ names w (delayers job blocked)

unfoldable pub job_line : Work → Task → List Happening → List Delay → List Delay → Job → List ℕ
job_line w x told preempted blocked job =
    left 17 (thread_name w x.thread) ++ time_cells x told job ++ due_cells x w.limit job ++ delay_cells w preempted blocked job ++ codes "\n"

unfoldable pub time_head : List ℕ
time_head = left 17 (codes "task") ++ right 9 (codes "release") ++ right 9 (codes "start") ++ right 12 (codes "completion") ++ right 10 (codes "response")

unfoldable pub due_head : List ℕ
due_head = right 10 (codes "deadline") ++ right 8 (codes "missed")

unfoldable pub delay_head : List ℕ
delay_head = right 14 (codes "preempted by") ++ right 23 (codes "blocked by")

unfoldable pub job_head : List ℕ
job_head = time_head ++ due_head ++ delay_head ++ codes "\n"

-- the jobs of a task, from the entries of the run
abbrev pub jobs_lines : Work → Task → List Happening → List Happening → List Job → List ℕ
jobs_lines w x happenings told jobs = flat_map (job_line w x told (preemptions x.thread happenings) (blocks x.thread happenings)) jobs

unfoldable pub task_jobs_text : Work → History → State → Task → List ℕ
task_jobs_text w h s x = jobs_lines w x h.happenings.items (told_entries x.thread x.sema.0 h.happenings.items) (set_jobs w h s x)

-- the jobs of these tasks
unfoldable pub jobs_text : Work → History → State → List Task → List ℕ
jobs_text w h s tasks = job_head ++ flat_map (task_jobs_text w h s) tasks
