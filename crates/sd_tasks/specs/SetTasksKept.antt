-- Kept tasks of a set as plain data.
use Rattle.std.specs.Prelude.{List, map}
use Rattle.sd_lines.specs.Said.{word_of}
use Rattle.sd_tasks.specs.declared.deadlines.SetTask.{SetTask}
use Rattle.sd_tasks.specs.SetTasks.{NamedTask}

abbrev pub task_kept : SetTask → NamedTask
task_kept t = record { name = word_of t.name; deadline = t.deadline }

abbrev pub tasks_kept : List SetTask → List NamedTask
tasks_kept tasks = map task_kept tasks
