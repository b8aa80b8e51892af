-- The reports of a run with a task set.
-- Source: this project's own.
use Rattle.std.specs.Prelude.{ℕ, List, ◌++◌}
use Rattle.sd_types.specs.declared.works.Work.{Work}
use Rattle.sd_state.specs.declared.states.State.{State}
use Rattle.sd_stretches.specs.declared.histories.History.{History}
use Rattle.sd_deadlines.specs.declared.task_table.Task.{Task}
use Rattle.sd_report.specs.Histograms.{histograms}
use Rattle.sd_report.specs.SetResponses.{all_responses}
use Rattle.sd_report.specs.SetSheets.{set_rows}
use Rattle.sd_report.specs.SetTables.{set_section, task_lines}
use Rattle.sd_report.specs.Sheets.{sheet_text}
use Rattle.sd_report.specs.Tables.{report_text}

-- The report of a run with this history and this last state, of the workload to which a set with these tasks expands: that of the
-- workload, the table of the tasks, and the histogram of each.
unfoldable pub set_report_text : Work → History → State → List Task → List ℕ
set_report_text w h s tasks = report_text w h s ++ set_section w (task_lines w h s tasks) ++ histograms w h s tasks

-- the same as comma-separated rows
unfoldable pub set_sheet_text : Work → History → State → List Task → List ℕ
set_sheet_text w h s tasks = sheet_text w h s ++ set_rows w (task_lines w h s tasks) ++ all_responses w h s tasks
