-- The tasks of a report by number: those that a set declares, and those of a workload without a set.
-- Source: response-time analysis (tasks, deadlines); that a task of a workload is a thread that takes units of a semaphore is this
-- project's own.
use Rattle.std.specs.Prelude.{ℕ, List, [], ◌∷◌, length, map, Option, Some, None, if◌then◌else◌}
use Rattle.std.specs.List.{flat_map, position_or_len, range_with_len}
use Rattle.sd_types.specs.declared.works.ChanKind.{ChanKind}
use Rattle.sd_types.specs.declared.works.ChanKind.TheVariants.{Sema}
use Rattle.sd_types.specs.declared.works.Work.{Work}
use Rattle.sd_types.specs.Works.{same_bytes}
use Rattle.sd_state.specs.Operations.{script_of}
use Rattle.sd_tasks.specs.SetTasks.{NamedTask}
use Rattle.sd_statistics.specs.Jobs.{takes}
use Rattle.sd_statistics.specs.Tasks.{kind_of}
use Rattle.sd_deadlines.specs.declared.task_table.Task.{Task}

-- A task of a set, in the workload to which the set expands: its thread and its semaphore have its name.

-- the number of the thread with the name, or of the threads where none has it
unfoldable pub thread_number : Work → List ℕ → ℕ
thread_number w name = position_or_len (λ d. same_bytes d.name.text.items name) w.threads

-- the number of the channel or semaphore with the name, or of these where none has it
unfoldable pub chan_number : Work → List ℕ → ℕ
chan_number w name = position_or_len (λ k. same_bytes k.0.text.items name) w.chans

abbrev pub numbered : Work → NamedTask → Task
numbered w x = record { thread = thread_number w x.name; sema = record { 0 = chan_number w x.name }; deadline = Some x.deadline }

-- those of a set, in the order of declaration
unfoldable pub numbered_tasks : Work → List NamedTask → List Task
numbered_tasks w xs = map (numbered w) xs

-- A task of a workload without a set: a thread that takes units of a semaphore. It has no deadline.

abbrev pub found_task : Work → ℕ → ℕ → List Task
found_task w k t = if takes k (script_of w t) then record { thread = t; sema = record { 0 = k }; deadline = None } ∷ [] else []

unfoldable pub sema_tasks : Work → ℕ → List Task
sema_tasks w k = flat_map (found_task w k) (range_with_len 0 (length w.threads))

abbrev pub tasks_by : Work → ℕ → Option ChanKind → List Task
tasks_by w k (Some (Sema count)) = sema_tasks w k
tasks_by w k _ = []

abbrev pub chan_tasks : Work → ℕ → List Task
chan_tasks w k = tasks_by w k (kind_of w k)

-- by semaphore
unfoldable pub found_tasks : Work → List Task
found_tasks w = flat_map (chan_tasks w) (range_with_len 0 (length w.chans))

-- the tasks of a set, where there is one, or of the workload
abbrev pub tasks_of : Work → Option (List Task) → List Task
tasks_of w None = found_tasks w
tasks_of w (Some tasks) = tasks
