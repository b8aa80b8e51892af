use Rattle.std.proofs.Common.{◌≡◌, ◌++◌}
use Rattle.std.specs.List.{flat_map, range_with_len}
use Rattle.sd_timeline.specs.Head.{cpu_head}
use Rattle.sd_timeline.proofs.head.put_cpu_heads.Given as goal

abbrev pub invariant-loop-c : goal.invariant-loop-c
invariant-loop-c l = l.out.items ≡ l.initial.out.items ++ flat_map (cpu_head l.work l.layout) (range_with_len 0 l.c)
