use Rattle.std.proofs.Common.{◌≡◌}
use Rattle.std.specs.List.{flat_map, range_with_len}
use Rattle.sd_stretches.specs.declared.spin_pieces.Track.TheVariants as track
use Rattle.sd_stretches.specs.SpinPieces.{pieces}
use Rattle.sd_statistics.proofs.locks.all_pieces.Given as goal

abbrev pub invariant-loop-t : goal.invariant-loop-t
invariant-loop-t l = l.all.items ≡ flat_map (λ t. pieces (track.Thread t) l.history l.work.limit) (range_with_len 0 l.t)
