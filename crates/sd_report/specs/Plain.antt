-- Which bytes reports are made of.
-- Source: RFC 20 (the characters of ASCII).
use Rattle.std.specs.Prelude.{List}
use Rattle.sd_types.specs.declared.works.Work.{Work}
use Rattle.sd_state.specs.declared.states.State.{State}
use Rattle.sd_stretches.specs.declared.histories.History.{History}
use Rattle.sd_stretches.specs.Plain.{IsText}
use Rattle.sd_deadlines.specs.declared.task_table.Task.{Task}
use Rattle.sd_report.specs.JobTables.{jobs_text}
use Rattle.sd_report.specs.SetReports.{set_report_text}
use Rattle.sd_report.specs.Tables.{report_text}

abbrev pub ReportsArePlain : Type 0
ReportsArePlain = (w : Work) (h : History) (s : State) → IsText (report_text w h s)

abbrev pub SetReportsArePlain : Type 0
SetReportsArePlain = (w : Work) (h : History) (s : State) (tasks : List Task) → IsText (set_report_text w h s tasks)

abbrev pub JobsArePlain : Type 0
JobsArePlain = (w : Work) (h : History) (s : State) (tasks : List Task) → IsText (jobs_text w h s tasks)
