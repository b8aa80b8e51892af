-- Reports of task sets, and tables of jobs, are whole lines: each ends with a newline.
use Rattle.std.proofs.Common.{ℕ, ◌+◌, ◌-◌, eqb, List, ◌++◌, length, Option, Some, None, refl, subst, append_assoc}
use Rattle.std.specs.Prelude.{codes}
use Rattle.std.specs.Int.{div_ceil}
use Rattle.std.specs.List.{flat_map, range_with_len}
use Rattle.sd_types.specs.declared.works.Work.{Work}
use Rattle.sd_state.specs.declared.states.State.{State}
use Rattle.sd_state.specs.Texts.{thread_name}
use Rattle.sd_text.specs.Lines.{EndsLine}
use Rattle.sd_text.proofs.PieceLemmas.{EndsLine-append, EndsLine-flat_map, EndsLine-newline}
use Rattle.sd_stretches.specs.declared.changes.Happening.{Happening}
use Rattle.sd_stretches.specs.declared.histories.History.{History}
use Rattle.sd_statistics.specs.declared.jobs.Job.{Job}
use Rattle.sd_statistics.specs.declared.spans.Span.{Span}
use Rattle.sd_statistics.specs.Jobs.{told_entries}
use Rattle.sd_statistics.specs.Spans.{summary_of, ticks_of}
use Rattle.sd_statistics.specs.Tasks.{responses}
use Rattle.sd_deadlines.specs.declared.job_lines.Delay.{Delay}
use Rattle.sd_deadlines.specs.declared.task_table.Task.{Task}
use Rattle.sd_deadlines.specs.declared.task_table.TaskLine.{TaskLine}
use Rattle.sd_deadlines.specs.Means.{mean_of}
use Rattle.sd_deadlines.specs.JobLines.{blocks, preemptions}
use Rattle.sd_deadlines.specs.TaskTable.{least, set_jobs}
use Rattle.sd_report.specs.Cells.{cell, left, right}
use Rattle.sd_report.specs.Histograms.{bar, bar_at, bar_head, bars, histogram_by, histogram_head, histograms, jobs_at, marks, scale, task_histogram, title_line}
use Rattle.sd_report.specs.JobTables.{delay_cells, delay_head, due_cells, due_head, job_head, job_line, jobs_text, task_jobs_text, time_cells, time_head}
use Rattle.sd_report.specs.SetReports.{set_report_text, set_sheet_text}
use Rattle.sd_report.specs.SetResponses.{all_responses, response_at, response_if, responses_between, responses_by, task_responses}
use Rattle.sd_report.specs.SetSheets.{job_rows, line_rows, mean_jobs, mean_ticks, miss_rows, no_longest, response_rows, set_numbers, set_row, set_rows, set_words}
use Rattle.sd_report.specs.SetTables.{job_cells, miss_cells, response_cells, set_head, set_line, set_section, task_lines, unfinished}
use Rattle.sd_report.specs.Sheets.{sheet_text}
use Rattle.sd_report.specs.Tables.{longest_ticks, report_text}
use Rattle.sd_report.proofs.ClosingLemmas.{fields-end, report-ends, sheet-ends, some-ends}

-- ---- the table of a set

set_line-ends : (w : Work) (x : TaskLine) → EndsLine (set_line w x)
unfolding set_line
set_line-ends w x = EndsLine-newline (left 17 (thread_name w x.task.thread) ++ job_cells x ++ response_cells x ++ miss_cells x)

set_head-ends : EndsLine set_head
unfolding set_head
set_head-ends =
    EndsLine-newline (left 17 (codes "task") ++ right 10 (codes "deadline") ++ right 10 (codes "released") ++ right 10 (codes "complete") ++ right 12 (codes "unfinished")
    ++ right 8 (codes "least") ++ right 12 (codes "mean") ++ right 10 (codes "greatest") ++ right 8 (codes "misses") ++ right 8 (codes "first") ++ right 9 (codes "blocked"))

set_section-ends : (w : Work) (lines : List TaskLine) → EndsLine (set_section w lines)
unfolding set_section
set_section-ends w lines =
    let title = codes "\ntasks of the set\n" in
    some-ends (eqb (length lines) 0) (title ++ set_head ++ flat_map (set_line w) lines)
    (EndsLine-append (title ++ set_head) (flat_map (set_line w) lines) (EndsLine-append title set_head refl set_head-ends)
    (EndsLine-flat_map (set_line w) (set_line-ends w) lines))

-- ---- histograms

bar-ends : (jobs_a_mark ticks jobs : ℕ) → EndsLine (bar jobs_a_mark ticks jobs)
unfolding bar
bar-ends jobs_a_mark ticks jobs =
    EndsLine-newline (right 9 (cell (Some ticks)) ++ right 8 (cell (Some jobs)) ++ codes "  " ++ marks (div_ceil jobs jobs_a_mark))

bar_at-ends : (spans : List Span) (from i : ℕ) → EndsLine (bar_at spans from i)
bar_at-ends spans from i =
    let jobs = jobs_at spans (from + i) in
    some-ends (eqb jobs 0) (bar (scale spans) (from + i) jobs) (bar-ends (scale spans) (from + i) jobs)

bars-end : (spans : List Span) (from to : ℕ) → EndsLine (bars spans from to)
unfolding bars
bars-end spans from to = EndsLine-flat_map (bar_at spans from) (bar_at-ends spans from) (range_with_len 0 (to + 1 - from))

histogram_head-ends : (w : Work) (t : ℕ) (spans : List Span) → EndsLine (histogram_head w t spans)
unfolding histogram_head bar_head
histogram_head-ends w t spans =
    subst EndsLine (append_assoc (title_line w t (scale spans)) (right 9 (codes "ticks") ++ right 8 (codes "jobs")) (codes "\n"))
    (EndsLine-newline (title_line w t (scale spans) ++ (right 9 (codes "ticks") ++ right 8 (codes "jobs"))))

histogram_by-ends : (w : Work) (t : ℕ) (spans : List Span) (from : Option ℕ) (to : Option Span) → EndsLine (histogram_by w t spans from to)
histogram_by-ends w t spans None to = refl
histogram_by-ends w t spans (Some from) None = refl
histogram_by-ends w t spans (Some from) (Some to) =
    EndsLine-append (histogram_head w t spans) (bars spans from (ticks_of to)) (histogram_head-ends w t spans) (bars-end spans from (ticks_of to))

task_histogram-ends : (w : Work) (h : History) (s : State) (x : Task) → EndsLine (task_histogram w h s x)
task_histogram-ends w h s x =
    let spans = responses x.thread (set_jobs w h s x) in
    histogram_by-ends w x.thread spans (least spans) (summary_of spans).longest

histograms-end : (w : Work) (h : History) (s : State) (tasks : List Task) → EndsLine (histograms w h s tasks)
unfolding histograms
histograms-end w h s tasks = EndsLine-flat_map (task_histogram w h s) (task_histogram-ends w h s) tasks

pub set_report-ends : (w : Work) (h : History) (s : State) (tasks : List Task) → EndsLine (set_report_text w h s tasks)
unfolding set_report_text
set_report-ends w h s tasks =
    let lines = task_lines w h s tasks in
    EndsLine-append (report_text w h s ++ set_section w lines) (histograms w h s tasks)
    (EndsLine-append (report_text w h s) (set_section w lines) (report-ends w h s) (set_section-ends w lines)) (histograms-end w h s tasks)

-- ---- as comma-separated rows

set_row-ends : (w : Work) (x : Task) (measure : List ℕ) (number ticks : Option ℕ) → EndsLine (set_row w x measure number ticks)
unfolding set_row
set_row-ends w x measure number ticks = fields-end (set_words w x measure ++ set_numbers number ticks ++ no_longest)

module _ (w : Work) (x : TaskLine) where
  job_rows-end : EndsLine (job_rows w x)
  unfolding job_rows
  job_rows-end =
      let t = x.task in
      let deadline = set_row w t (codes "deadline") None t.deadline in
      let released = set_row w t (codes "released") (Some x.released) None in
      let complete = set_row w t (codes "complete") (Some x.responses.number) None in
      let left = set_row w t (codes "unfinished") (Some (unfinished x)) None in
      EndsLine-append (deadline ++ released ++ complete) left
      (EndsLine-append (deadline ++ released) complete
      (EndsLine-append deadline released (set_row-ends w t (codes "deadline") None t.deadline) (set_row-ends w t (codes "released") (Some x.released) None))
      (set_row-ends w t (codes "complete") (Some x.responses.number) None))
      (set_row-ends w t (codes "unfinished") (Some (unfinished x)) None)

  response_rows-end : EndsLine (response_rows w x)
  unfolding response_rows
  response_rows-end =
      let t = x.task in
      let m = mean_of x.responses in
      let greatest = longest_ticks x.responses.longest in
      let least_row = set_row w t (codes "least") None x.least in
      let mean_row = set_row w t (codes "mean") (mean_jobs m) (mean_ticks m) in
      EndsLine-append (least_row ++ mean_row) (set_row w t (codes "greatest") None greatest)
      (EndsLine-append least_row mean_row (set_row-ends w t (codes "least") None x.least) (set_row-ends w t (codes "mean") (mean_jobs m) (mean_ticks m)))
      (set_row-ends w t (codes "greatest") None greatest)

  miss_rows-end : EndsLine (miss_rows w x)
  unfolding miss_rows
  miss_rows-end =
      let t = x.task in
      let misses = set_row w t (codes "misses") (Some x.misses) None in
      let first = set_row w t (codes "first miss") None x.first_miss in
      EndsLine-append (misses ++ first) (set_row w t (codes "blocked") None x.blocked)
      (EndsLine-append misses first (set_row-ends w t (codes "misses") (Some x.misses) None) (set_row-ends w t (codes "first miss") None x.first_miss))
      (set_row-ends w t (codes "blocked") None x.blocked)

line_rows-end : (w : Work) (x : TaskLine) → EndsLine (line_rows w x)
unfolding line_rows
line_rows-end w x =
    EndsLine-append (job_rows w x ++ response_rows w x) (miss_rows w x)
    (EndsLine-append (job_rows w x) (response_rows w x) (job_rows-end w x) (response_rows-end w x)) (miss_rows-end w x)

set_rows-end : (w : Work) (lines : List TaskLine) → EndsLine (set_rows w lines)
unfolding set_rows
set_rows-end w lines = EndsLine-flat_map (line_rows w) (line_rows-end w) lines

response_if-ends : (w : Work) (x : Task) (ticks jobs : ℕ) → EndsLine (response_if w x ticks jobs)
response_if-ends w x ticks jobs = some-ends (eqb jobs 0) (set_row w x (codes "response") (Some jobs) (Some ticks)) (set_row-ends w x (codes "response") (Some jobs) (Some ticks))

responses_by-end : (w : Work) (x : Task) (spans : List Span) (from : Option ℕ) (to : Option Span) → EndsLine (responses_by w x spans from to)
unfolding responses_between
responses_by-end w x spans (Some from) (Some to) =
    EndsLine-flat_map (response_at w x spans from) (λ i. response_if-ends w x (from + i) (jobs_at spans (from + i))) (range_with_len 0 (ticks_of to + 1 - from))
responses_by-end w x spans (Some from) None = refl
responses_by-end w x spans None to = refl

all_responses-end : (w : Work) (h : History) (s : State) (tasks : List Task) → EndsLine (all_responses w h s tasks)
unfolding all_responses
all_responses-end w h s tasks =
    EndsLine-flat_map (task_responses w h s) (λ x. let spans = responses x.thread (set_jobs w h s x) in responses_by-end w x spans (least spans) (summary_of spans).longest) tasks

pub set_sheet-ends : (w : Work) (h : History) (s : State) (tasks : List Task) → EndsLine (set_sheet_text w h s tasks)
unfolding set_sheet_text
set_sheet-ends w h s tasks =
    let rows = set_rows w (task_lines w h s tasks) in
    EndsLine-append (sheet_text w h s ++ rows) (all_responses w h s tasks) (EndsLine-append (sheet_text w h s) rows (sheet-ends w h s) (set_rows-end w (task_lines w h s tasks)))
    (all_responses-end w h s tasks)

-- ---- the jobs

job_line-ends : (w : Work) (x : Task) (told : List Happening) (preempted blocked : List Delay) (job : Job) → EndsLine (job_line w x told preempted blocked job)
unfolding job_line
job_line-ends w x told preempted blocked job =
    EndsLine-newline (left 17 (thread_name w x.thread) ++ time_cells x told job ++ due_cells x w.limit job ++ delay_cells w preempted blocked job)

job_head-ends : EndsLine job_head
unfolding job_head
job_head-ends = EndsLine-newline (time_head ++ due_head ++ delay_head)

task_jobs-end : (w : Work) (h : History) (s : State) (x : Task) → EndsLine (task_jobs_text w h s x)
unfolding task_jobs_text
task_jobs-end w h s x =
    let happenings = h.happenings.items in
    let line = job_line w x (told_entries x.thread x.sema.0 happenings) (preemptions x.thread happenings) (blocks x.thread happenings) in
    EndsLine-flat_map line (job_line-ends w x (told_entries x.thread x.sema.0 happenings) (preemptions x.thread happenings) (blocks x.thread happenings)) (set_jobs w h s x)

pub jobs-end : (w : Work) (h : History) (s : State) (tasks : List Task) → EndsLine (jobs_text w h s tasks)
unfolding jobs_text
jobs-end w h s tasks = EndsLine-append job_head (flat_map (task_jobs_text w h s) tasks) job_head-ends (EndsLine-flat_map (task_jobs_text w h s) (task_jobs-end w h s) tasks)
