-- What `disptask` promises of a call, for each of its exit statuses. What is said of bytes is said of streams that tell
-- them (`before` and `after` are Some); the counts of faults are always told.
-- Source: this project's own.
use Rattle.std.specs.Prelude.{◌≡◌, ℕ, Bool, List, codes, Option, Some, None, Result, Ok, Err}
use Rattle.std.specs.Io.KnownBytes.{Appends}
use Rattle.sd_types.specs.Limits.{most_workload_bytes}
use Rattle.sd_declare.specs.declared.causes.WorkCause.{WorkCause}
use Rattle.sd_tasks.specs.Written.{Written}
use Rattle.sd_tasks.specs.WrittenKept.{lines_kept}
use Rattle.sd_releases.specs.declared.expanding.Expansion.{Expansion}
use Rattle.sd_releases.specs.Verdicts.{Expands, RefusesSet, set_verdict}
use Rattle.sd_answers.specs.Answers.{line_with, status_of}
use Rattle.sd_answers.specs.Inputs.{HasAtMost, HasRead, HasTooMany}
use Rattle.sd_answers.specs.StreamChanges.{AppendsPart, HasFault, HasNoFault, IsUntouched, StreamChange, TellsLine}
use Rattle.sd_answers.specs.declared.answers.Answer.{Answer}
use Rattle.sd_answers.specs.declared.answers.Answer.TheVariants.{Done, Usage, TooLarge, Refused, ReadFault, WriteFault, OutOfMemory}
use Rattle.sd_task_program.specs.declared.forms.Request.{Request}
use Rattle.sd_task_program.specs.declared.forms.Request.TheVariants.{Help, Expand}
use Rattle.sd_task_program.specs.Forms.{request_of}
use Rattle.sd_task_program.specs.Printed.{help_text, printed}

-- the input is a task set that expands to these lines
pub record IsSet (input : StreamChange) (lines : List Written) : Type 0 where
  pub bytes : List ℕ
  pub read : HasRead most_workload_bytes input bytes
  pub expands : set_verdict bytes ≡ Expands lines

-- the input is no accepted task set: the first line at fault, from 1, and the least of its causes
pub record IsNoSet (input : StreamChange) (line : ℕ) (cause : WorkCause) : Type 0 where
  pub bytes : List ℕ
  pub read : HasRead most_workload_bytes input bytes
  pub refused : set_verdict bytes ≡ RefusesSet line cause

-- why an input is no task set
abbrev pub IsUnread : StreamChange → Answer → Type 0
IsUnread input TooLarge = HasTooMany most_workload_bytes input
IsUnread input (Refused line cause) = IsNoSet input line cause
IsUnread input ReadFault = HasFault input
IsUnread input OutOfMemory = HasAtMost most_workload_bytes input
IsUnread input _ = ⊥

-- the expansion of the input's set, or why there is none
abbrev pub IsExpanded : StreamChange → Result Expansion Answer → Type 0
IsExpanded input (Ok e) = IsSet input (lines_kept e.lines.items)
IsExpanded input (Err a) = IsUnread input a

-- the lines of the input's set were printed, whole
pub record PrintsSet (is_mapped : Bool) (input out : StreamChange) : Type 0 where
  pub lines : List Written
  pub set : IsSet input lines
  pub written : Appends out.before out.after (printed is_mapped lines)
  pub no_fault : HasNoFault out

-- a write failed, behind a part of them
pub record BreaksOff (is_mapped : Bool) (input out : StreamChange) : Type 0 where
  pub lines : List Written
  pub set : IsSet input lines
  pub written : AppendsPart out.before out.after (printed is_mapped lines)
  pub fault : HasFault out

-- the answer and its cause
abbrev pub CausedBySet : Bool → StreamChange → StreamChange → Answer → Type 0
CausedBySet is_mapped input out Done = PrintsSet is_mapped input out
CausedBySet is_mapped input out WriteFault = BreaksOff is_mapped input out
CausedBySet is_mapped input out a = IsUnread input a × IsUntouched out

abbrev pub CausedByHelp : StreamChange → Answer → Type 0
CausedByHelp out Done = Appends out.before out.after help_text × HasNoFault out
CausedByHelp out WriteFault = AppendsPart out.before out.after help_text × HasFault out
CausedByHelp out _ = ⊥

abbrev pub CausedByRequest : Option Request → StreamChange → StreamChange → Answer → Type 0
CausedByRequest None input out a = (a ≡ Usage) × IsUntouched input × IsUntouched out
CausedByRequest (Some Help) input out a = IsUntouched input × CausedByHelp out a
CausedByRequest (Some (Expand is_mapped)) input out a = CausedBySet is_mapped input out a

abbrev pub usage_line : List ℕ
usage_line = codes "usage: disptask [--map] [FILE] | --help\n"

-- the answer has its cause, its status and its line
pub record ExpandsAsPromised (arguments : List (List ℕ)) (input out err : StreamChange) (status : ℕ) : Type 0 where
  pub answer : Answer
  pub exit : status ≡ status_of answer
  pub caused : CausedByRequest (request_of arguments) input out answer
  pub told : TellsLine err (line_with usage_line answer)
