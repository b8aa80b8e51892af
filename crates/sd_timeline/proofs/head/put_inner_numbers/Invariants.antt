use Rattle.std.proofs.Common.{◌≡◌, ◌++◌}
use Rattle.std.specs.List.{flat_map, range_with_len}
use Rattle.sd_timeline.specs.Head.{inner_number}
use Rattle.sd_timeline.proofs.head.put_inner_numbers.Given as goal

abbrev pub invariant-loop-k : goal.invariant-loop-k
invariant-loop-k l = l.out.items ≡ l.initial.out.items ++ flat_map (inner_number l.layout l.tick) (range_with_len 0 l.k)
