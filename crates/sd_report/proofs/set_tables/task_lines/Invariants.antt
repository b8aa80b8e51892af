use Rattle.std.proofs.Common.{◌≡◌, map, take}
use Rattle.sd_deadlines.specs.TaskTable.{task_line}
use Rattle.sd_report.proofs.set_tables.task_lines.Given as goal

abbrev pub invariant-loop-x : goal.invariant-loop-x
invariant-loop-x l = l.lines.items ≡ map (task_line l.work l.history l.end) (take l.x-index l.tasks)
