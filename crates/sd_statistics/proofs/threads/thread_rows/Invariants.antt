use Rattle.std.proofs.Common.{◌≡◌}
use Rattle.std.specs.List.{flat_map, range_with_len}
use Rattle.sd_statistics.specs.Threads.{thread_part}
use Rattle.sd_statistics.proofs.threads.thread_rows.Given as goal

abbrev pub invariant-loop-t : goal.invariant-loop-t
invariant-loop-t l = l.rows.items ≡ flat_map (thread_part l.work l.history) (range_with_len 0 l.t)
