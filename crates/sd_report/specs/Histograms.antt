-- The histogram of a task: for each response that occurs how many jobs have it, as a row of marks.
-- Source: this project's own.
use Rattle.std.specs.Prelude.{ℕ, ◌+◌, ◌-◌, ◌/◌, ◌==◌, min, nat_le, List, [], ◌++◌, length, count_by, replicate, codes, decimal, Option, Some, if◌then◌else◌}
use Rattle.std.specs.Int.{div_ceil}
use Rattle.std.specs.List.{flat_map, range_with_len}
use Rattle.sd_types.specs.declared.works.Work.{Work}
use Rattle.sd_state.specs.declared.states.State.{State}
use Rattle.sd_state.specs.Texts.{thread_name}
use Rattle.sd_stretches.specs.declared.histories.History.{History}
use Rattle.sd_statistics.specs.declared.spans.Span.{Span}
use Rattle.sd_statistics.specs.Spans.{summary_of, ticks_of}
use Rattle.sd_statistics.specs.Tasks.{responses}
use Rattle.sd_deadlines.specs.declared.task_table.Task.{Task}
use Rattle.sd_deadlines.specs.TaskTable.{least, set_jobs}
use Rattle.sd_report.specs.Cells.{cell, right}

-- how many of the responses last so many ticks
abbrev pub jobs_at : List Span → ℕ → ℕ
jobs_at spans ticks = count_by (λ x. ticks_of x == ticks) spans

-- For how many jobs a mark stands, at most: for one where there are 60 responses at most, for two where there are 120, and so on.
abbrev pub scale : List Span → ℕ
scale spans = (length spans - 1) / 60 + 1

-- a row has 60 marks at most
abbrev pub marks : ℕ → List ℕ
marks n = replicate (min n 60) 35

-- so many jobs respond within so many ticks, where a mark stands for up to so many jobs
unfoldable pub bar : ℕ → ℕ → ℕ → List ℕ
bar jobs_a_mark ticks jobs = right 9 (cell (Some ticks)) ++ right 8 (cell (Some jobs)) ++ codes "  " ++ marks (div_ceil jobs jobs_a_mark) ++ codes "\n"

-- nothing for a response that does not occur
abbrev pub bar_if : ℕ → ℕ → ℕ → List ℕ
bar_if jobs_a_mark ticks jobs = if jobs == 0 then [] else bar jobs_a_mark ticks jobs

abbrev pub bar_at : List Span → ℕ → ℕ → List ℕ
bar_at spans from i = bar_if (scale spans) (from + i) (jobs_at spans (from + i))

-- from one response to another
unfoldable pub bars : List Span → ℕ → ℕ → List ℕ
bars spans from to = flat_map (bar_at spans from) (range_with_len 0 (to + 1 - from))

unfoldable pub scale_words : ℕ → List ℕ
scale_words n = if nat_le n 1 then codes ", a # for each job\n" else (codes ", a # for up to " ++ decimal n) ++ codes " jobs\n"

unfoldable pub title_words : Work → ℕ → List ℕ
title_words w t = codes "\nresponses of " ++ thread_name w t

unfoldable pub title_line : Work → ℕ → ℕ → List ℕ
title_line w t jobs_a_mark = title_words w t ++ scale_words jobs_a_mark

unfoldable pub bar_head : List ℕ
bar_head = right 9 (codes "ticks") ++ right 8 (codes "jobs") ++ codes "\n"

unfoldable pub histogram_head : Work → ℕ → List Span → List ℕ
histogram_head w t spans = title_line w t (scale spans) ++ bar_head

-- from the least to the greatest, where there are responses
abbrev pub histogram_by : Work → ℕ → List Span → Option ℕ → Option Span → List ℕ
histogram_by w t spans (Some from) (Some to) = histogram_head w t spans ++ bars spans from (ticks_of to)
histogram_by w t spans from to = []

-- of thread t, whose complete jobs have these responses
abbrev pub histogram : Work → ℕ → List Span → List ℕ
histogram w t spans = histogram_by w t spans (least spans) (summary_of spans).longest

abbrev pub task_histogram : Work → History → State → Task → List ℕ
task_histogram w h s x = histogram w x.thread (responses x.thread (set_jobs w h s x))

unfoldable pub histograms : Work → History → State → List Task → List ℕ
histograms w h s tasks = flat_map (task_histogram w h s) tasks
