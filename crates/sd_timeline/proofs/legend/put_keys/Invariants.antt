use Rattle.std.proofs.Common.{◌≡◌, ◌++◌}
use Rattle.std.specs.List.{flat_map, range_with_len}
use Rattle.sd_timeline.specs.Legend.{key_at}
use Rattle.sd_timeline.proofs.legend.put_keys.Given as goal

abbrev pub invariant-loop-n : goal.invariant-loop-n
invariant-loop-n l = l.out.items ≡ l.initial.out.items ++ flat_map (key_at l.layout l.keys) (range_with_len 0 l.n)
