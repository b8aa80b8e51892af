use Rattle.std.proofs.Common.{◌≡◌, ◌+◌}
use Rattle.std.specs.List.{flat_map, range_with_len}
use Rattle.sd_layout.specs.Folds.{stop_at}
use Rattle.sd_layout.proofs.folds.stops_of.Given as goal

abbrev pub invariant-loop-n : goal.invariant-loop-n
invariant-loop-n l = l.stops.items ≡ flat_map (λ k. stop_at l.frame l.changes (l.frame.from + k)) (range_with_len 0 l.n)
