use Rattle.std.proofs.Common.{◌≡◌}
use Rattle.std.specs.List.{flat_map, range_with_len}
use Rattle.sd_timeline.specs.Moments.{drawn_by}
use Rattle.sd_timeline.proofs.moments.drawn_pieces.Given as goal

abbrev pub invariant-loop-t : goal.invariant-loop-t
invariant-loop-t l = l.found.items ≡ flat_map (drawn_by l.work l.layout l.history) (range_with_len 0 l.t)
