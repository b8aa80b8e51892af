-- What stands behind an answer of `dispview`.
-- Source: this project's own.
use Rattle.std.specs.Prelude.{◌≡◌, ℕ, List, ◌++◌, codes, Option, Some, None, Result, Ok, Err}
use Rattle.std.specs.Io.KnownBytes.{Appends}
use Rattle.std.specs.declared.vec.Vec.{Vec}
use Rattle.std.specs.declared.alloc.Global.{Global}
use Rattle.sd_types.specs.declared.works.Work.{Work}
use Rattle.sd_answers.specs.declared.answers.Answer.{Answer}
use Rattle.sd_answers.specs.declared.answers.Answer.TheVariants.{Done, Usage, WriteFault}
use Rattle.sd_answers.specs.Answers.{line_with, status_of}
use Rattle.sd_answers.specs.Certificates.{CausedByCertificate, IsJudged}
use Rattle.sd_answers.specs.StreamChanges.{StreamChange, AppendsPart, HasFault, HasNoFault, IsUntouched, TellsLine}
use Rattle.sd_tasks.specs.SetTasks.{NamedTask}
use Rattle.sd_set_inputs.specs.Sets.{sets}
use Rattle.sd_set_inputs.specs.ToldTasks.{IsSetCertificate}
use Rattle.sd_viewer.specs.declared.drawings.Drawing.{Drawing}
use Rattle.sd_viewer.specs.declared.forms.Request.{Request}
use Rattle.sd_viewer.specs.declared.forms.Request.TheVariants.{Help, Draw}
use Rattle.sd_viewer.specs.Drawings.{IsDrawn, left_line}
use Rattle.sd_viewer.specs.Forms.{request_of}
use Rattle.sd_viewer.specs.declared.viewing.Drawn.{Drawn}

-- The input is a workload or a task set and the journal of a complete run of the workload, and the text is the drawing of this run. The
-- tasks are those that the set declares, with their deadlines, and none of a workload.
pub record IsDrawnInput (drawing : Drawing) (input : StreamChange) (text : List ℕ) : Type 0 where
  pub work : Work
  pub tasks : Option (List NamedTask)
  pub journal : List ℕ
  pub certificate : IsSetCertificate input work tasks journal
  pub drawn : IsDrawn drawing tasks work journal text

-- the drawing of the run whose journal the input holds, and what is said of it, or why there is none
abbrev pub IsDrawing : Drawing → StreamChange → Result Drawn Answer → Type 0
IsDrawing drawing input drawn =
    IsJudged sets (λ (d : Drawn). (of : IsDrawnInput drawing input d.text.items) × (d.line.items ≡ left_line drawing of.work)) input drawn

-- ---- the lines on the error output

-- the line of an answer where no drawing was written: that of an audit, but for the usage
abbrev pub answer_line : Answer → List ℕ
answer_line a = line_with (codes "usage: dispview timeline [FROM TO] | trace | list [FROM TO] | list NAME | report [--csv | --jobs] | --help\n") a

-- ---- the forms in a few lines

abbrev pub help_text : List ℕ
help_text =
    codes "dispview reads a workload or a task set, the line journal, and a journal, and judges it:\n" ++ (codes "(cat W; echo journal; dispsim run < W) | dispview FORM\n"
    ++ (codes "timeline          the run as a picture (SVG)\n" ++ (codes "timeline FROM TO  the ticks from FROM to TO of it\n"
    ++ (codes "trace             the run for chrome://tracing and Perfetto (JSON)\n" ++ (codes "list              each entry with a sentence on it\n"
    ++ (codes "list FROM TO      those of the ticks from FROM to TO\n" ++ (codes "list NAME         those that name the thread NAME\n"
    ++ (codes "report            statistics of threads, tasks, locks and processors\n" ++ (codes "report --csv      the same for a spreadsheet (CSV)\n"
    ++ (codes "report --jobs     each job of each task\n" ++ codes "--help            these lines\n"))))))))))

-- ---- an answer, its cause and its line

-- The drawing was written whole, of one workload and one journal of it; and the line says what of what was asked for is left
-- out of the drawing of a run of this workload, or is not there.
abbrev pub Draws : Drawing → StreamChange → StreamChange → List ℕ → Type 0
Draws drawing input out line =
    (text : List ℕ) × (of : IsDrawnInput drawing input text) × Appends out.before out.after text × HasNoFault out × (line ≡ left_line drawing of.work)

-- where a drawing is asked for
abbrev pub CausedByView : Drawing → StreamChange → StreamChange → Answer → List ℕ → Type 0
CausedByView drawing input out Done line = Draws drawing input out line
CausedByView drawing input out a line = CausedByCertificate sets (IsDrawnInput drawing input) (λ text. text) input out a × (line ≡ answer_line a)

-- where the forms are asked for: they were written whole, or a write failed
abbrev pub CausedByViewHelp : StreamChange → Answer → Type 0
CausedByViewHelp out Done = Appends out.before out.after help_text × HasNoFault out
CausedByViewHelp out WriteFault = AppendsPart out.before out.after help_text × HasFault out
CausedByViewHelp out _ = ⊥

abbrev pub CausedByViewRequest : Option Request → StreamChange → StreamChange → Answer → List ℕ → Type 0
CausedByViewRequest None input out a line = (a ≡ Usage) × (line ≡ answer_line a) × IsUntouched input × IsUntouched out
CausedByViewRequest (Some Help) input out a line = CausedByViewHelp out a × (line ≡ answer_line a) × IsUntouched input
CausedByViewRequest (Some (Draw drawing)) input out a line = CausedByView drawing input out a line

-- the answer where a drawing was written, with what is said of it, or where none was
abbrev pub viewed_answer : Result (Vec ℕ Global) Answer → Answer
viewed_answer (Ok line) = Done
viewed_answer (Err a) = a

abbrev pub viewed_line : Result (Vec ℕ Global) Answer → List ℕ
viewed_line (Ok line) = line.items
viewed_line (Err a) = answer_line a

-- there is an answer to the arguments with this status, with its cause and its line
pub record IsViewed (arguments : List (List ℕ)) (input out err : StreamChange) (status : ℕ) : Type 0 where
  pub answer : Answer
  pub line : List ℕ
  pub exit : status ≡ status_of answer
  pub caused : CausedByViewRequest (request_of arguments) input out answer line
  pub told : TellsLine err line
