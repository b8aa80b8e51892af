-- What is drawn of the whole history of a run: every drawing but a story.
-- Source: this project's own.
use Rattle.std.specs.Prelude.{ℕ, List, Option}
use Rattle.sd_types.specs.declared.works.Work.{Work}
use Rattle.sd_state.specs.declared.states.State.{State}
use Rattle.sd_stretches.specs.declared.histories.History.{History}
use Rattle.sd_trace.specs.Tracks.{trace_text}
use Rattle.sd_tasks.specs.SetTasks.{NamedTask}
use Rattle.sd_viewer.specs.declared.drawings.Drawing.{Drawing}
use Rattle.sd_viewer.specs.declared.drawings.Drawing.TheVariants as drawing
use Rattle.sd_viewer.specs.declared.drawings.View.{View}
use Rattle.sd_viewer.specs.declared.drawings.View.TheVariants.{Timeline, Trace, Report, Sheet, Jobs}
use Rattle.sd_viewer.specs.Drawings.{picture_text}
use Rattle.sd_viewer.specs.Reports.{jobs_by, report_by, sheet_by}

abbrev pub drawing_of : View → Drawing
drawing_of (Timeline from to) = drawing.Timeline from to
drawing_of Trace = drawing.Trace
drawing_of Report = drawing.Report
drawing_of Sheet = drawing.Sheet
drawing_of Jobs = drawing.Jobs

-- the text, of a run with this history and this last state, whose input tells these tasks
abbrev pub view_text : View → Option (List NamedTask) → Work → History → State → List ℕ
view_text (Timeline from to) tasks w h end = picture_text w h from to end
view_text Trace tasks w h end = trace_text w h
view_text Report tasks w h end = report_by tasks w h end
view_text Sheet tasks w h end = sheet_by tasks w h end
view_text Jobs tasks w h end = jobs_by tasks w h end
