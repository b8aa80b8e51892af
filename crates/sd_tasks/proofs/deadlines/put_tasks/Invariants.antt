use Rattle.std.proofs.Common.{◌≡◌, ◌++◌, map, take}
use Rattle.std.specs.List.{flat_map}
use Rattle.sd_tasks.specs.Kept.{member_kept}
use Rattle.sd_tasks.specs.SetTasks.{task_in}
use Rattle.sd_tasks.specs.SetTasksKept.{tasks_kept}
use Rattle.sd_tasks.proofs.deadlines.put_tasks.Given as goal

abbrev pub invariant-loop-member : goal.invariant-loop-member
invariant-loop-member l = tasks_kept l.tasks.items ≡ tasks_kept l.initial.tasks.items ++ flat_map task_in (map member_kept (take l.member-index l.members))
