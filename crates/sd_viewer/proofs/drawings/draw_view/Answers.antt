use Rattle.std.proofs.Common.{◌≡◌, ℕ, List, Option, ap, ◌∙◌}
use Rattle.sd_types.specs.declared.events.Entry.{Entry}
use Rattle.sd_types.specs.declared.works.Work.{Work}
use Rattle.sd_state.specs.declared.states.State.{State}
use Rattle.sd_state.specs.Opening.{opening}
use Rattle.sd_machine.specs.Runs.{final}
use Rattle.sd_stretches.specs.declared.histories.History.{History}
use Rattle.sd_stretches.specs.Histories.{IsHistory}
use Rattle.sd_audit.proofs.ExactLemmas.{journal_read}
use Rattle.sd_tasks.specs.SetTasks.{NamedTask}
use Rattle.sd_set_inputs.specs.ToldTasks.{tasks_said}
use Rattle.sd_viewer.specs.declared.drawings.View.{View}
use Rattle.sd_viewer.specs.declared.drawings.View.TheVariants.{Timeline, Trace, Report, Sheet, Jobs}
use Rattle.sd_viewer.specs.Drawings.{IsDrawingOf}
use Rattle.sd_viewer.specs.Views.{drawing_of, view_text}
use Rattle.sd_viewer.proofs.drawings.draw_view.Goals as goal

pub returns-in_default-clause-fault : goal.returns-in_default-clause-fault
returns-in_default-clause-fault c =
    let run = c.in_ok-gathered.gathered in
    journal_read c.args.work.now c.args.text.now run.end run.number c.in_ok-gathered.ensures.gathered.journal

-- a view is a drawing of the whole history
drawing_is : (view : View) (tasks : Option (List NamedTask)) (w : Work) (es : List Entry) (h : History) (text : List ℕ) → IsHistory w es h
    → text ≡ view_text view tasks w h (final w (opening w) es) → IsDrawingOf (drawing_of view) tasks w es text
drawing_is (Timeline from to) tasks w es h text history is = (h, history, is)
drawing_is Trace tasks w es h text history is = (h, history, is)
drawing_is Report tasks w es h text history is = (h, history, is)
drawing_is Sheet tasks w es h text history is = (h, history, is)
drawing_is Jobs tasks w es h text history is = (h, history, is)

pub returns-clause-drawn : goal.returns-clause-drawn
returns-clause-drawn c =
    let w = c.args.work.now in
    let tasks = tasks_said c.args.tasks.now in
    let run = c.in_ok-gathered.gathered in
    let gathered = c.in_ok-gathered.ensures.gathered in
    let j = gathered.journal in
    record {
      entries = j.entries;
      journal_of = record { run = j.run; spelled = j.spelled; whole = j.whole };
      complete = j.complete;
      drawing_of =
          drawing_is c.args.view tasks w j.entries run.history _ gathered.history
          (c.in-Ok.ensures ∙ ap (λ (s : State). view_text c.args.view tasks w run.history s) j.ends);
    }
