-- The reports of a run, with the tasks that its input tells: those of a set, or none of a workload.
-- Source: this project's own.
use Rattle.std.specs.Prelude.{ℕ, List, Option, Some, None}
use Rattle.sd_types.specs.declared.works.Work.{Work}
use Rattle.sd_state.specs.declared.states.State.{State}
use Rattle.sd_stretches.specs.declared.histories.History.{History}
use Rattle.sd_tasks.specs.SetTasks.{NamedTask}
use Rattle.sd_deadlines.specs.Numbering.{found_tasks, numbered_tasks}
use Rattle.sd_report.specs.JobTables.{jobs_text}
use Rattle.sd_report.specs.SetReports.{set_report_text, set_sheet_text}
use Rattle.sd_report.specs.Sheets.{sheet_text}
use Rattle.sd_report.specs.Tables.{report_text}

abbrev pub report_by : Option (List NamedTask) → Work → History → State → List ℕ
report_by None w h s = report_text w h s
report_by (Some tasks) w h s = set_report_text w h s (numbered_tasks w tasks)

abbrev pub sheet_by : Option (List NamedTask) → Work → History → State → List ℕ
sheet_by None w h s = sheet_text w h s
sheet_by (Some tasks) w h s = set_sheet_text w h s (numbered_tasks w tasks)

abbrev pub jobs_by : Option (List NamedTask) → Work → History → State → List ℕ
jobs_by None w h s = jobs_text w h s (found_tasks w)
jobs_by (Some tasks) w h s = jobs_text w h s (numbered_tasks w tasks)
