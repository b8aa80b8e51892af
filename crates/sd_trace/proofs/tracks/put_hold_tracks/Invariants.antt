use Rattle.std.proofs.Common.{◌≡◌, ◌++◌}
use Rattle.std.specs.List.{flat_map, range_with_len}
use Rattle.sd_trace.specs.Tracks.{hold_track}
use Rattle.sd_trace.proofs.tracks.put_hold_tracks.Given as goal

abbrev pub invariant-loop-lane : goal.invariant-loop-lane
invariant-loop-lane l = l.out.items ≡ l.initial.out.items ++ flat_map (hold_track l.work l.t) (range_with_len 0 l.lane)
