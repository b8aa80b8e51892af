use Rattle.std.proofs.Common.{◌≡◌, ◌++◌}
use Rattle.std.specs.List.{flat_map, range_with_len}
use Rattle.sd_timeline.specs.Head.{mark_if}
use Rattle.sd_timeline.proofs.head.put_ticks_before.Given as goal

abbrev pub invariant-loop-n : goal.invariant-loop-n
invariant-loop-n l = l.out.items ≡ l.initial.out.items ++ flat_map (mark_if l.layout) (range_with_len 0 l.n)
