use Rattle.std.proofs.Common.{◌≡◌, ◌++◌, take}
use Rattle.std.specs.List.{flat_map}
use Rattle.sd_report.specs.SetResponses.{task_responses}
use Rattle.sd_report.proofs.set_responses.put_responses.Given as goal

abbrev pub invariant-loop-x : goal.invariant-loop-x
invariant-loop-x l = l.out.items ≡ l.initial.out.items ++ flat_map (task_responses l.work l.history l.end) (take l.x-index l.tasks)
