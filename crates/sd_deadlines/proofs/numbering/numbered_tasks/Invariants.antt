use Rattle.std.proofs.Common.{◌≡◌, map, take}
use Rattle.sd_tasks.specs.SetTasksKept.{tasks_kept}
use Rattle.sd_deadlines.specs.Numbering.{numbered}
use Rattle.sd_deadlines.proofs.numbering.numbered_tasks.Given as goal

abbrev pub invariant-loop-x : goal.invariant-loop-x
invariant-loop-x l = l.found.items ≡ map (numbered l.work) (tasks_kept (take l.x-index l.tasks))
