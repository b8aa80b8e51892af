use Rattle.std.proofs.Common.{◌≡◌, ◌++◌}
use Rattle.std.specs.List.{flat_map, range_with_len}
use Rattle.sd_accounts.specs.Counters.{counted_cpu_line}
use Rattle.sd_accounts.proofs.lines.put_cpus.Given as goal

abbrev pub invariant-loop-c : goal.invariant-loop-c
invariant-loop-c l = l.out.items ≡ l.initial.out.items ++ flat_map (counted_cpu_line l.cpus) (range_with_len 0 l.c)
