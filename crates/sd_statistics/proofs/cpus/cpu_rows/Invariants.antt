use Rattle.std.proofs.Common.{◌≡◌}
use Rattle.std.specs.List.{flat_map, range_with_len}
use Rattle.sd_statistics.specs.Cpus.{cpu_part}
use Rattle.sd_statistics.proofs.cpus.cpu_rows.Given as goal

abbrev pub invariant-loop-c : goal.invariant-loop-c
invariant-loop-c l = l.rows.items ≡ flat_map (cpu_part l.history.happenings.items) (range_with_len 0 l.c)
