use Rattle.std.proofs.Common.{◌≡◌, length, None}
use Rattle.sd_deadlines.specs.TaskTable.{least_from}
use Rattle.sd_deadlines.proofs.task_table.least.Given as goal

abbrev pub invariant-loop-x : goal.invariant-loop-x
invariant-loop-x l = least_from l.best l.left ≡ least_from None l.spans

abbrev pub decreases-loop-x : goal.decreases-loop-x
decreases-loop-x l = length l.left
