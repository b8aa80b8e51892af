-- What stands behind an answer of `dispfind`.
-- Source: this project's own.
use Rattle.std.specs.Prelude.{◌≡◌, ◌⊎◌, ℕ, List, [], ◌++◌, codes, Option, Some, None, Result, Ok, Err}
use Rattle.std.specs.Io.KnownBytes.{Appends}
use Rattle.sd_types.specs.declared.works.Work.{Work}
use Rattle.sd_answers.specs.declared.answers.Answer.{Answer}
use Rattle.sd_answers.specs.declared.answers.Answer.TheVariants.{Usage, TooLarge, Refused, ReadFault, WriteFault, OutOfMemory}
use Rattle.sd_answers.specs.Answers.{line_with, status_of}
use Rattle.sd_answers.specs.Handing.{LeavesHeldBy}
use Rattle.sd_types.specs.Limits.{most_workload_bytes}
use Rattle.sd_answers.specs.Inputs.{HasAtMost, HasTooMany, IsNoWorkload, IsWorkload}
use Rattle.sd_answers.specs.StreamChanges.{StreamChange, AppendsPart, HasFault, HasNoFault, IsUntouched, TellsLine}
use Rattle.sd_set_inputs.specs.Sets.{sets}
use Rattle.sd_search_answers.specs.declared.forms.Aim.{Aim}
use Rattle.sd_search_answers.specs.declared.forms.Request.{Request}
use Rattle.sd_search_answers.specs.declared.forms.Request.TheVariants.{Help, Search}
use Rattle.sd_search_answers.specs.declared.verdicts.Told.{Told}
use Rattle.sd_search_answers.specs.declared.verdicts.Verdict.{Verdict}
use Rattle.sd_search_answers.specs.declared.verdicts.Verdict.TheVariants.{Done, Found, Never, More, NoThread}
use Rattle.sd_search_answers.specs.Answered.{IsTold}
use Rattle.sd_search_answers.specs.Forms.{request_of}

-- ---- exit statuses and the lines on the error output

abbrev pub verdict_status : Verdict → ℕ
verdict_status Done = 0
verdict_status Found = 9
verdict_status Never = 10
verdict_status More = 11
verdict_status NoThread = 2

abbrev pub ended_status : Result Verdict Answer → ℕ
ended_status (Ok verdict) = verdict_status verdict
ended_status (Err answer) = status_of answer

-- the line of an answer where nothing was said: that of a run, but for the usage
abbrev pub answer_line : Answer → List ℕ
answer_line a = line_with (codes "usage: dispfind (blocked | stuck | states | ends NAME | waits NAME) [--most N] [--quiet] | --help\n") a

-- what was said stands on the output, and leaves no line; that no thread has the name is said here alone
abbrev pub verdict_line : Verdict → List ℕ
verdict_line NoThread = codes "refused: no thread has this name\n"
verdict_line _ = []

abbrev pub ended_line : Result Verdict Answer → List ℕ
ended_line (Ok verdict) = verdict_line verdict
ended_line (Err answer) = answer_line answer

-- ---- the forms in a few lines

abbrev pub help_text : List ℕ
help_text =
    codes "dispfind reads a workload or a task set, and searches every order in which its processors can act:\n" ++ (codes "dispfind FORM [--most N] [--quiet] < W\n"
    ++ (codes "blocked    a run at whose end threads block each other in a circle\n" ++ (codes "stuck      a run at whose end a thread that has operations left has not ended\n"
    ++ (codes "states     how many states there are, and in how many of them runs end\n" ++ (codes "ends NAME  at which tick thread NAME ends at the earliest and at the latest\n"
    ++ (codes "waits NAME how many ticks thread NAME waits at most from a wakeup to its running\n" ++ (codes "--most N   ends with N states; 1000000 where it is not given\n"
    ++ (codes "--quiet    no lines of progress on the error output of a terminal\n" ++ (codes "--help     these lines\n" ++ (codes "Exit status: 9 found, its journal behind the line states; 10 never; 11 not all searched\n"
    ++ (codes "(cat W; echo journal; dispfind FORM < W | sed '1,/^states /d') | dispsim audit\n"
    ++ codes "Of ends two journals stand behind the lines earliest and latest\n")))))))))))

-- ---- an answer and its cause

-- the input spells a workload, and this is said of it
pub record IsToldOf (aim : Aim) (most : ℕ) (input : StreamChange) (told : Told) : Type 0 where
  pub work : Work
  pub workload : IsWorkload sets input work
  pub is : IsTold work aim most told

-- what is said was written whole; where that is nothing the output was left alone
pub record Says (aim : Aim) (most : ℕ) (input out : StreamChange) (verdict : Verdict) : Type 0 where
  pub told : Told
  pub of : IsToldOf aim most input told
  pub verdict_is : told.verdict ≡ verdict
  pub whole : Appends out.before out.after told.text.items
  pub silent : told.text.items ≡ [] → IsUntouched out
  pub no_fault : HasNoFault out

-- why nothing was said, or not all of it was written
abbrev pub SaysNothing : Aim → ℕ → StreamChange → StreamChange → Answer → Type 0
SaysNothing aim most input out TooLarge = HasTooMany most_workload_bytes input × IsUntouched out
SaysNothing aim most input out (Refused line cause) = IsNoWorkload sets input line cause × IsUntouched out
SaysNothing aim most input out ReadFault = HasFault input × IsUntouched out
SaysNothing aim most input out WriteFault = (told : Told) × IsToldOf aim most input told × (told.text.items ≡ [] → ⊥) × HasFault out × AppendsPart out.before out.after told.text.items
SaysNothing aim most input out OutOfMemory = HasAtMost most_workload_bytes input × IsUntouched out
SaysNothing aim most input out _ = ⊥

-- where a search is asked for
abbrev pub CausedBySearch : Aim → ℕ → StreamChange → StreamChange → Result Verdict Answer → Type 0
CausedBySearch aim most input out (Ok verdict) = Says aim most input out verdict
CausedBySearch aim most input out (Err answer) = SaysNothing aim most input out answer

-- where the forms are asked for: they were written whole, or a write failed
abbrev pub CausedByFindHelp : StreamChange → Result Verdict Answer → Type 0
CausedByFindHelp out (Ok Done) = Appends out.before out.after help_text × HasNoFault out
CausedByFindHelp out (Err WriteFault) = AppendsPart out.before out.after help_text × HasFault out
CausedByFindHelp out _ = ⊥

abbrev pub CausedByFindRequest : Option Request → StreamChange → StreamChange → Result Verdict Answer → Type 0
CausedByFindRequest None input out ended = (ended ≡ Err Usage) × IsUntouched input × IsUntouched out
CausedByFindRequest (Some Help) input out ended = IsUntouched input × CausedByFindHelp out ended
CausedByFindRequest (Some (Search aim most)) input out ended = CausedBySearch aim most input out ended

-- how the call ended has its cause, its status and its line
pub record IsSought (arguments : List (List ℕ)) (input out err : StreamChange) (status : ℕ) : Type 0 where
  pub ended : Result Verdict Answer
  pub exit : status ≡ ended_status ended
  pub caused : CausedByFindRequest (request_of arguments) input out ended
  pub told : TellsLine err (ended_line ended)

-- ---- bytes that the output holds back

-- what was said was handed on; where no thread has the name nothing more is held back
abbrev pub LeavesHeldAtEnd : Result Verdict Answer → List ℕ → List ℕ → Type 0
LeavesHeldAtEnd (Ok NoThread) before after = (after ≡ before) ⊎ (after ≡ [])
LeavesHeldAtEnd (Ok verdict) before after = after ≡ []
LeavesHeldAtEnd (Err answer) before after = LeavesHeldBy answer before after
