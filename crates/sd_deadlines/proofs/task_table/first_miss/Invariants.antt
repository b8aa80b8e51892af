use Rattle.std.proofs.Common.{◌≡◌, [], take}
use Rattle.std.specs.Prelude.{filter}
use Rattle.sd_deadlines.specs.TaskTable.{misses}
use Rattle.sd_deadlines.proofs.task_table.first_miss.Given as goal

abbrev pub invariant-loop-x : goal.invariant-loop-x
invariant-loop-x l = filter (misses l.deadline l.end) (take l.x-index l.jobs) ≡ []
