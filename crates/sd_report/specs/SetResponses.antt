-- The histograms of a set as comma-separated rows: for each response of a task that occurs, how many jobs have it.
-- Source: RFC 4180 (comma-separated values).
use Rattle.std.specs.Prelude.{ℕ, ◌+◌, ◌-◌, ◌==◌, List, [], codes, Option, Some, if◌then◌else◌}
use Rattle.std.specs.List.{flat_map, range_with_len}
use Rattle.sd_types.specs.declared.works.Work.{Work}
use Rattle.sd_state.specs.declared.states.State.{State}
use Rattle.sd_stretches.specs.declared.histories.History.{History}
use Rattle.sd_statistics.specs.declared.spans.Span.{Span}
use Rattle.sd_statistics.specs.Spans.{summary_of, ticks_of}
use Rattle.sd_statistics.specs.Tasks.{responses}
use Rattle.sd_deadlines.specs.declared.task_table.Task.{Task}
use Rattle.sd_deadlines.specs.TaskTable.{least, set_jobs}
use Rattle.sd_report.specs.Histograms.{jobs_at}
use Rattle.sd_report.specs.SetSheets.{set_row}

-- so many jobs respond within so many ticks; nothing for a response that does not occur
abbrev pub response_if : Work → Task → ℕ → ℕ → List ℕ
response_if w x ticks jobs = if jobs == 0 then [] else set_row w x (codes "response") (Some jobs) (Some ticks)

abbrev pub response_at : Work → Task → List Span → ℕ → ℕ → List ℕ
response_at w x spans from i = response_if w x (from + i) (jobs_at spans (from + i))

-- from one response to another
unfoldable pub responses_between : Work → Task → List Span → ℕ → ℕ → List ℕ
responses_between w x spans from to = flat_map (response_at w x spans from) (range_with_len 0 (to + 1 - from))

-- from the least to the greatest, where there are responses
abbrev pub responses_by : Work → Task → List Span → Option ℕ → Option Span → List ℕ
responses_by w x spans (Some from) (Some to) = responses_between w x spans from (ticks_of to)
responses_by w x spans from to = []

abbrev pub spans_rows : Work → Task → List Span → List ℕ
spans_rows w x spans = responses_by w x spans (least spans) (summary_of spans).longest

abbrev pub task_responses : Work → History → State → Task → List ℕ
task_responses w h s x = spans_rows w x (responses x.thread (set_jobs w h s x))

unfoldable pub all_responses : Work → History → State → List Task → List ℕ
all_responses w h s tasks = flat_map (task_responses w h s) tasks
