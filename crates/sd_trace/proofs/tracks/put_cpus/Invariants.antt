use Rattle.std.proofs.Common.{◌≡◌, ◌++◌}
use Rattle.std.specs.List.{flat_map, range_with_len}
use Rattle.sd_trace.specs.Tracks.{cpu_part}
use Rattle.sd_trace.proofs.tracks.put_cpus.Given as goal

abbrev pub invariant-loop-c : goal.invariant-loop-c
invariant-loop-c l = l.out.items ≡ l.initial.out.items ++ flat_map (cpu_part l.work l.history) (range_with_len 0 l.c)
