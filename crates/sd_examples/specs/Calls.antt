-- Calls of the four programs on texts in memory.
-- Source: this project's own.
use Rattle.std.specs.Prelude.{◌≡◌, ℕ, List, [], ◌∷◌, ◌++◌, codes, Some}
use Rattle.sd_answers.specs.StreamChanges.{StreamChange}
use Rattle.sd_find.specs.Asked.{asked}
use Rattle.sd_find.specs.Promises as finder
use Rattle.sd_program.specs.Headline.{KeepsPromises}
use Rattle.sd_task_program.specs.Promises as tasks
use Rattle.sd_viewer.specs.Promises as viewer

-- A call read these bytes, wrote this text on an output that was empty, and returned this status, and this holds of what it
-- did to its input, its output and its error output. No fault was counted before it.
pub record Writes (P : StreamChange → StreamChange → StreamChange → ℕ → Type 0) (bytes text : List ℕ) (status : ℕ) : Type 0 where
  pub input : StreamChange
  pub out : StreamChange
  pub err : StreamChange
  pub reads : input.before ≡ Some bytes
  pub empty : out.before ≡ Some []
  pub written : out.after ≡ Some text
  pub no_read_fault : input.faults_before ≡ 0
  pub no_write_fault : out.faults_before ≡ 0
  pub promised : P input out err status

-- `dispsim run`, on this workload, wrote this text and returned this status
abbrev pub Runs : List ℕ → List ℕ → ℕ → Type 0
Runs workload text status = Writes (KeepsPromises (codes "run" ∷ [])) workload text status

-- `dispview`, with this argument and on this certificate, wrote this text and returned this status
abbrev pub Views : List ℕ → List ℕ → List ℕ → ℕ → Type 0
Views word certificate text status = Writes (viewer.ShowsAsPromised (word ∷ [])) certificate text status

-- the same with two arguments
abbrev pub ViewsWith : List ℕ → List ℕ → List ℕ → List ℕ → ℕ → Type 0
ViewsWith word option certificate text status = Writes (viewer.ShowsAsPromised (word ∷ option ∷ [])) certificate text status

-- `dispfind`, with these arguments and on this workload, wrote this text and returned this status
abbrev pub Finds : List (List ℕ) → List ℕ → List ℕ → ℕ → Type 0
Finds arguments workload text status = Writes (finder.SearchesAsPromised (asked arguments)) workload text status

-- `disptask`, with no argument and on this task set, wrote this text and returned this status
abbrev pub Expands : List ℕ → List ℕ → ℕ → Type 0
Expands set text status = Writes (tasks.ExpandsAsPromised []) set text status

-- a workload and a journal as one text
abbrev pub certificate_of : List ℕ → List ℕ → List ℕ
certificate_of workload journal = workload ++ (codes "journal\n" ++ journal)
