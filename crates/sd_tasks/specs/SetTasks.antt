-- The tasks that a set declares, with their deadlines.
-- Source: response-time analysis (deadlines); the rest is this project's own.
use Rattle.std.specs.Prelude.{ℕ, List, [], ◌∷◌, flat_map, Option, Some, None}
use Rattle.sd_lines.specs.Words.{Word}
use Rattle.sd_tasks.specs.Above.{Above, Member}
use Rattle.sd_tasks.specs.Readings.{reading_of}

-- a task, by its name
pub record NamedTask : Type 0 where
  pub name : Word
  -- within how many ticks of its release a job is to be complete
  pub deadline : ℕ

abbrev pub task_of : Word → Option ℕ → List NamedTask
task_of name None = []
task_of name (Some ticks) = record { name = name; deadline = ticks } ∷ []

abbrev pub task_in : Member → List NamedTask
task_in m = task_of m.name m.deadline

-- in the order of declaration
unfoldable pub set_tasks : Above → List NamedTask
set_tasks a = flat_map task_in a.threads

-- those of a set with this text
abbrev pub declared_tasks : List ℕ → List NamedTask
declared_tasks text = set_tasks (reading_of text).seen.above
