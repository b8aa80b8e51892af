use Rattle.std.proofs.Common.{◌≡◌, ◌++◌}
use Rattle.std.specs.List.{flat_map, range_with_len}
use Rattle.sd_statistics.specs.Tasks.{task_part}
use Rattle.sd_statistics.proofs.tasks.push_sema.Given as goal

abbrev pub invariant-loop-t : goal.invariant-loop-t
invariant-loop-t l =
    l.out.items ≡ l.initial.out.items ++ flat_map (task_part l.work l.history l.end l.k l.count) (range_with_len 0 l.t)
