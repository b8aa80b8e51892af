use Rattle.std.proofs.Common.{◌≡◌, length, ◌-◌, ◌≤◌, take}
use Rattle.std.specs.Io.KnownBytes.{Appends}
use Rattle.sd_text.proofs.write.write_piece.Given as goal

-- the sink has a prefix of the piece, and no fault was counted
abbrev pub invariant-loop-at : goal.invariant-loop-at
invariant-loop-at g l = record {
  within : l.at ≤ length l.piece;
  appended : Appends (g.K.Sink.contents l.fn.sink) (g.K.Sink.contents l.sink) (take l.at l.piece);
  no_fault : g.K.Sink.fault_count l.sink ≡ g.K.Sink.fault_count l.fn.sink;
}

abbrev pub decreases-loop-at : goal.decreases-loop-at
decreases-loop-at g l = length l.piece - l.at
