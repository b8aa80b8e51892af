-- The tasks that a text tells, with their deadlines: those of the set that it is, and none where it is a workload.
-- Source: this project's own.
use Rattle.std.specs.Prelude.{◌≡◌, ℕ, ◌≤◌, List, length, Option, Some, None, Vec, option_map, Result, Ok, Err}
use Rattle.std.specs.declared.alloc.Global.{Global}
use Rattle.sd_types.specs.declared.works.Work.{Work}
use Rattle.sd_types.specs.Limits.{most_workload_bytes}
use Rattle.sd_workload.specs.Texts.{Verdict, Accepts, Refuses, verdict_of}
use Rattle.sd_tasks.specs.declared.deadlines.SetTask.{SetTask}
use Rattle.sd_tasks.specs.SetTasks.{NamedTask, declared_tasks}
use Rattle.sd_tasks.specs.SetTasksKept.{tasks_kept}
use Rattle.sd_answers.specs.declared.answers.Answer.{Answer}
use Rattle.sd_answers.specs.Inputs.{HasParts, IsNoCertificate}
use Rattle.sd_answers.specs.StreamChanges.{StreamChange}
use Rattle.sd_set_inputs.specs.declared.inputs.SetCertificate.{SetCertificate}
use Rattle.sd_set_inputs.specs.Sets.{SpellsSet, sets}

abbrev pub tasks_by : Verdict → List ℕ → Option (List NamedTask)
tasks_by (Accepts d) text = None
tasks_by (Refuses line cause) text = Some (declared_tasks text)

abbrev pub told_tasks : List ℕ → Option (List NamedTask)
told_tasks text = tasks_by (verdict_of text) text

-- kept tasks as plain data
abbrev pub tasks_said : Option (Vec SetTask Global) → Option (List NamedTask)
tasks_said tasks = option_map (λ v. tasks_kept v.items) tasks

-- The input is the text of a workload or a set, the line `journal` and this text. These are the tasks that the text before this line
-- tells.
pub record IsSetCertificate (input : StreamChange) (w : Work) (tasks : Option (List NamedTask)) (text : List ℕ) : Type 0 where
  pub before : List ℕ
  pub parts : HasParts input before text
  pub bound : length before ≤ most_workload_bytes
  pub accepted : SpellsSet before w
  pub told : tasks ≡ told_tasks before

abbrev pub IsReadingSet : StreamChange → Result SetCertificate Answer → Type 0
IsReadingSet input (Ok found) = IsSetCertificate input found.work (tasks_said found.tasks) found.journal.items
IsReadingSet input (Err a) = IsNoCertificate sets input a
