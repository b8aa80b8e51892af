use Rattle.std.proofs.Common.{◌≡◌, ◌++◌}
use Rattle.std.specs.List.{flat_map, range_with_len}
use Rattle.sd_trace.specs.Tracks.{own_holds}
use Rattle.sd_trace.proofs.tracks.put_each_holds.Given as goal

abbrev pub invariant-loop-t : goal.invariant-loop-t
invariant-loop-t l = l.out.items ≡ l.initial.out.items ++ flat_map (own_holds l.work l.all) (range_with_len 0 l.t)
