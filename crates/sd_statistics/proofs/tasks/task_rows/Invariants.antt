use Rattle.std.proofs.Common.{◌≡◌}
use Rattle.std.specs.List.{flat_map, range_with_len}
use Rattle.sd_statistics.specs.Tasks.{chan_part}
use Rattle.sd_statistics.proofs.tasks.task_rows.Given as goal

abbrev pub invariant-loop-k : goal.invariant-loop-k
invariant-loop-k l = l.rows.items ≡ flat_map (chan_part l.work l.history l.end) (range_with_len 0 l.k)
