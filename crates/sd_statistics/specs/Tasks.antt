-- The rows of tasks.
-- Source: response-time analysis; the rows are this project's own.
use Rattle.std.specs.Prelude.{ℕ, List, [], ◌∷◌, ◌++◌, length, count_by, Option, Some, None, is_none, slice_get, if◌then◌else◌}
use Rattle.std.specs.List.{flat_map, range_with_len}
use Rattle.sd_types.specs.declared.names.Name.{Name}
use Rattle.sd_types.specs.declared.works.ChanKind.{ChanKind}
use Rattle.sd_types.specs.declared.works.ChanKind.TheVariants.{Sema}
use Rattle.sd_types.specs.declared.works.Work.{Work}
use Rattle.sd_state.specs.declared.states.State.{State}
use Rattle.sd_state.specs.Operations.{script_of}
use Rattle.sd_stretches.specs.declared.histories.History.{History}
use Rattle.sd_statistics.specs.declared.jobs.Job.{Job}
use Rattle.sd_statistics.specs.declared.jobs.Point.{Point}
use Rattle.sd_statistics.specs.declared.jobs.Release.{Release}
use Rattle.sd_statistics.specs.declared.rows.Measure.TheVariants.{Responds, Unfinished}
use Rattle.sd_statistics.specs.declared.rows.Row.{Row}
use Rattle.sd_statistics.specs.declared.rows.Subject.TheVariants as subject
use Rattle.sd_statistics.specs.declared.spans.Span.{Span}
use Rattle.sd_statistics.specs.Jobs.{jobs_of, takes, told_entries}
use Rattle.sd_statistics.specs.Rows.{all_of, count_figures, row_if}
use Rattle.sd_statistics.specs.Spans.{summary_of}

-- the response of a job: from its release to its completion, where it is complete
abbrev pub response_to : ℕ → Release → Option Point → List Span
response_to t r None = []
response_to t r (Some p) = record { thread = t; first = r.first; last = p.entry; from = r.tick; to = p.tick } ∷ []

abbrev pub response_of : ℕ → Job → List Span
response_of t x = response_to t x.release x.completion

-- the responses of the jobs that are complete
unfoldable pub responses : ℕ → List Job → List Span
responses t jobs = flat_map (response_of t) jobs

-- how many are not complete
abbrev pub unfinished : List Job → ℕ
unfinished jobs = count_by (λ x. is_none x.completion) jobs

abbrev pub response_row : ℕ → ℕ → List Job → List Row
response_row k t jobs =
    row_if (record { subject = subject.Task t (record { 0 = k }); measure = Responds; figures = all_of (summary_of (responses t jobs)) })

abbrev pub unfinished_row : ℕ → ℕ → List Job → List Row
unfinished_row k t jobs =
    row_if (record { subject = subject.Task t (record { 0 = k }); measure = Unfinished; figures = count_figures (unfinished jobs) })

unfoldable pub job_rows : ℕ → ℕ → List Job → List Row
job_rows k t jobs = response_row k t jobs ++ unfinished_row k t jobs

-- the jobs of thread t by semaphore k, which begins with so many units
abbrev pub task_jobs : Work → History → State → ℕ → ℕ → ℕ → List Job
task_jobs w h s k count t = jobs_of w s k count t (told_entries t k h.happenings.items)

abbrev pub task_part : Work → History → State → ℕ → ℕ → ℕ → List Row
task_part w h s k count t = if takes k (script_of w t) then job_rows k t (task_jobs w h s k count t) else []

unfoldable pub sema_rows : Work → History → State → ℕ → ℕ → List Row
sema_rows w h s k count = flat_map (task_part w h s k count) (range_with_len 0 (length w.threads))

abbrev pub chan_rows : Work → History → State → ℕ → Option ChanKind → List Row
chan_rows w h s k (Some (Sema count)) = sema_rows w h s k count
chan_rows w h s k _ = []

abbrev pub kind_in : Option (Name × ChanKind) → Option ChanKind
kind_in None = None
kind_in (Some c) = Some c.1

abbrev pub kind_of : Work → ℕ → Option ChanKind
kind_of w k = kind_in (slice_get w.chans k)

abbrev pub chan_part : Work → History → State → ℕ → List Row
chan_part w h s k = chan_rows w h s k (kind_of w k)

-- the rows of all tasks of a run with this history and this last state, by semaphore
unfoldable pub task_rows : Work → History → State → List Row
task_rows w h s = flat_map (chan_part w h s) (range_with_len 0 (length w.chans))
