-- Which bytes reports of task sets, and tables of jobs, are made of.
use Rattle.std.proofs.Common.{ℕ, zero, suc, ◌+◌, ◌-◌, min, Bool, List, [], ◌∷◌, ◌++◌, length, Option, Some, None, refl}
use Rattle.std.specs.Prelude.{◌==◌, codes, decimal, nat_le, replicate}
use Rattle.std.specs.Int.{div_ceil}
use Rattle.std.specs.List.{flat_map, range_with_len}
use Rattle.std.proofs.lemmas.List.Folds.{list_all-append}
use Rattle.sd_types.specs.declared.numbers.ThreadId.{ThreadId}
use Rattle.sd_types.specs.declared.works.Work.{Work}
use Rattle.sd_state.specs.declared.states.State.{State}
use Rattle.sd_state.specs.Texts.{thread_name}
use Rattle.sd_stretches.specs.declared.changes.Happening.{Happening}
use Rattle.sd_stretches.specs.declared.histories.History.{History}
use Rattle.sd_stretches.specs.Plain.{is_text_byte, IsText}
use Rattle.sd_stretches.proofs.TextLemmas.{decimal-text, either-text, flat-text, thread-text}
use Rattle.sd_statistics.specs.declared.jobs.Job.{Job}
use Rattle.sd_statistics.specs.declared.spans.Span.{Span}
use Rattle.sd_statistics.specs.Jobs.{told_entries}
use Rattle.sd_statistics.specs.Spans.{summary_of, ticks_of}
use Rattle.sd_statistics.specs.Tasks.{responses}
use Rattle.sd_deadlines.specs.declared.job_lines.Delay.{Delay}
use Rattle.sd_deadlines.specs.declared.means.Mean.{Mean}
use Rattle.sd_deadlines.specs.declared.task_table.Task.{Task}
use Rattle.sd_deadlines.specs.declared.task_table.TaskLine.{TaskLine}
use Rattle.sd_deadlines.specs.JobLines.{blocks, delayers, preemptions}
use Rattle.sd_deadlines.specs.Means.{mean_of}
use Rattle.sd_deadlines.specs.TaskTable.{least, misses, set_jobs}
use Rattle.sd_report.specs.Cells.{left, right}
use Rattle.sd_report.specs.Histograms.{bar, bar_at, bar_head, bars, histogram_by, histogram_head, histograms, jobs_at, scale, scale_words, task_histogram, title_line, title_words}
use Rattle.sd_report.specs.JobTables.{delay_cells, delay_head, due_cells, due_head, job_head, job_line, jobs_text, missed_word, more_names, name_behind, names, task_jobs_text, time_cells, time_head}
use Rattle.sd_report.specs.SetReports.{set_report_text}
use Rattle.sd_report.specs.SetTables.{job_cells, mean_cell, miss_cells, response_cells, set_head, set_line, set_section, task_lines}
use Rattle.sd_report.proofs.PlainLemmas.{left-text, number-text, report-text, right-text}

-- ---- the table of a set

mean-text : (m : Option Mean) → IsText (mean_cell m)
mean-text None = refl
mean-text (Some m) = simp (list_all-append is_text_byte, decimal-text)

job_cells-text : (x : TaskLine) → IsText (job_cells x)
unfolding job_cells
job_cells-text x = simp (list_all-append is_text_byte, number-text)

response_cells-text : (x : TaskLine) → IsText (response_cells x)
unfolding response_cells
response_cells-text x = simp (list_all-append is_text_byte, number-text, right-text 12 (mean_cell (mean_of x.responses)) (mean-text (mean_of x.responses)))

miss_cells-text : (x : TaskLine) → IsText (miss_cells x)
unfolding miss_cells
miss_cells-text x = simp (list_all-append is_text_byte, number-text)

set_line-text : (w : Work) (x : TaskLine) → IsText (set_line w x)
unfolding set_line
set_line-text w x =
    simp (
      list_all-append is_text_byte,
      left-text 17 (thread_name w x.task.thread) (thread-text w x.task.thread),
      job_cells-text x,
      response_cells-text x,
      miss_cells-text x,
    )

set_head-text : IsText set_head
unfolding set_head left right
set_head-text = refl

set_section-text : (w : Work) (lines : List TaskLine) → IsText (set_section w lines)
unfolding set_section
set_section-text w lines =
    either-text (length lines == 0) [] (codes "\ntasks of the set\n" ++ set_head ++ flat_map (set_line w) lines) refl
    (simp (list_all-append is_text_byte, set_head-text, flat-text (set_line w) (set_line-text w) lines))

-- ---- histograms

row-text : (n : ℕ) → IsText (replicate n 35)
row-text zero = refl
row-text (suc n) = row-text n

bar-text : (jobs_a_mark ticks jobs : ℕ) → IsText (bar jobs_a_mark ticks jobs)
unfolding bar
bar-text jobs_a_mark ticks jobs = simp (list_all-append is_text_byte, number-text, row-text (min (div_ceil jobs jobs_a_mark) 60))

bar_at-text : (spans : List Span) (from i : ℕ) → IsText (bar_at spans from i)
bar_at-text spans from i =
    let jobs = jobs_at spans (from + i) in either-text (jobs == 0) [] (bar (scale spans) (from + i) jobs) refl (bar-text (scale spans) (from + i) jobs)

bars-text : (spans : List Span) (from to : ℕ) → IsText (bars spans from to)
unfolding bars
bars-text spans from to = flat-text (bar_at spans from) (bar_at-text spans from) (range_with_len 0 (to + 1 - from))

scale-text : (n : ℕ) → IsText (scale_words n)
unfolding scale_words
scale-text n =
    either-text (nat_le n 1) (codes ", a # for each job\n") ((codes ", a # for up to " ++ decimal n) ++ codes " jobs\n") refl
    (simp (list_all-append is_text_byte, decimal-text))

title-text : (w : Work) (t jobs_a_mark : ℕ) → IsText (title_line w t jobs_a_mark)
unfolding title_line title_words
title-text w t jobs_a_mark = simp (list_all-append is_text_byte, thread-text w t, scale-text jobs_a_mark)

bar_head-text : IsText bar_head
unfolding bar_head right
bar_head-text = refl

histogram_head-text : (w : Work) (t : ℕ) (spans : List Span) → IsText (histogram_head w t spans)
unfolding histogram_head
histogram_head-text w t spans = simp (list_all-append is_text_byte, title-text w t (scale spans), bar_head-text)

histogram_by-text : (w : Work) (t : ℕ) (spans : List Span) (from : Option ℕ) (to : Option Span) → IsText (histogram_by w t spans from to)
histogram_by-text w t spans None to = refl
histogram_by-text w t spans (Some from) None = refl
histogram_by-text w t spans (Some from) (Some to) = simp (list_all-append is_text_byte, histogram_head-text w t spans, bars-text spans from (ticks_of to))

task_histogram-text : (w : Work) (h : History) (s : State) (x : Task) → IsText (task_histogram w h s x)
task_histogram-text w h s x =
    let spans = responses x.thread (set_jobs w h s x) in
    histogram_by-text w x.thread spans (least spans) (summary_of spans).longest

pub set_report-text : (w : Work) (h : History) (s : State) (tasks : List Task) → IsText (set_report_text w h s tasks)
unfolding set_report_text histograms
set_report-text w h s tasks =
    simp (
      list_all-append is_text_byte,
      report-text w h s,
      set_section-text w (task_lines w h s tasks),
      flat-text (task_histogram w h s) (task_histogram-text w h s) tasks,
    )

-- ---- the jobs

missed-text : (deadline : Option ℕ) (missed : Bool) → IsText (missed_word deadline missed)
missed-text None missed = refl
missed-text (Some deadline) missed = either-text missed (codes "yes") (codes "no") refl refl

name_behind-text : (w : Work) (t : ThreadId) → IsText (name_behind w t)
name_behind-text w t = simp (list_all-append is_text_byte, thread-text w t.0)

names-text : (w : Work) (threads : List ThreadId) → IsText (names w threads)
unfolding more_names
names-text w [] = refl
names-text w (t ∷ ts) = simp (list_all-append is_text_byte, thread-text w t.0, flat-text (name_behind w) (name_behind-text w) ts)

time_cells-text : (x : Task) (told : List Happening) (job : Job) → IsText (time_cells x told job)
unfolding time_cells
time_cells-text x told job = simp (list_all-append is_text_byte, number-text)

due_cells-text : (x : Task) (end : ℕ) (job : Job) → IsText (due_cells x end job)
unfolding due_cells
due_cells-text x end job =
    let missed = misses x.deadline end job in
    simp (list_all-append is_text_byte, number-text, right-text 8 (missed_word x.deadline missed) (missed-text x.deadline missed))

delay_cells-text : (w : Work) (preempted blocked : List Delay) (job : Job) → IsText (delay_cells w preempted blocked job)
unfolding delay_cells
delay_cells-text w preempted blocked job =
    simp (
      list_all-append is_text_byte,
      left-text 24 (names w (delayers job preempted)) (names-text w (delayers job preempted)),
      names-text w (delayers job blocked),
    )

job_line-text : (w : Work) (x : Task) (told : List Happening) (preempted blocked : List Delay) (job : Job) → IsText (job_line w x told preempted blocked job)
unfolding job_line
job_line-text w x told preempted blocked job =
    simp (
      list_all-append is_text_byte,
      left-text 17 (thread_name w x.thread) (thread-text w x.thread),
      time_cells-text x told job,
      due_cells-text x w.limit job,
      delay_cells-text w preempted blocked job,
    )

job_head-text : IsText job_head
unfolding job_head time_head due_head delay_head left right
job_head-text = refl

task_jobs-text : (w : Work) (h : History) (s : State) (x : Task) → IsText (task_jobs_text w h s x)
unfolding task_jobs_text
task_jobs-text w h s x =
    let happenings = h.happenings.items in
    let told = told_entries x.thread x.sema.0 happenings in
    flat-text (job_line w x told (preemptions x.thread happenings) (blocks x.thread happenings))
    (job_line-text w x told (preemptions x.thread happenings) (blocks x.thread happenings)) (set_jobs w h s x)

pub jobs-text : (w : Work) (h : History) (s : State) (tasks : List Task) → IsText (jobs_text w h s tasks)
unfolding jobs_text
jobs-text w h s tasks = simp (list_all-append is_text_byte, job_head-text, flat-text (task_jobs_text w h s) (task_jobs-text w h s) tasks)
