use Rattle.std.proofs.Common.{◌≡◌, take}
use Rattle.std.specs.Prelude.{sum_by}
use Rattle.sd_statistics.specs.Spans.{at_most_u64}
use Rattle.sd_deadlines.specs.TaskTable.{blocked_in}
use Rattle.sd_deadlines.proofs.task_table.blocked_ticks.Given as goal

abbrev pub invariant-loop-x : goal.invariant-loop-x
invariant-loop-x l = l.ticks ≡ at_most_u64 (sum_by (blocked_in l.from l.to) (take l.x-index l.own))
