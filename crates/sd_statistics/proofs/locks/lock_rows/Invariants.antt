use Rattle.std.proofs.Common.{◌≡◌}
use Rattle.std.specs.List.{flat_map, range_with_len}
use Rattle.sd_statistics.specs.Locks.{lock_part}
use Rattle.sd_statistics.proofs.locks.lock_rows.Given as goal

abbrev pub invariant-loop-l : goal.invariant-loop-l
invariant-loop-l l = l.rows.items ≡ flat_map (lock_part l.work l.history l.all.items) (range_with_len 0 l.l)
