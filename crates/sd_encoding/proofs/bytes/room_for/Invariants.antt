use Rattle.std.proofs.Common.{◌≡◌, ◌≤◌, ◌*◌, take}
use Rattle.std.specs.List.{sum_by}
use Rattle.sd_encoding.specs.Placing.{room_of}
use Rattle.sd_encoding.proofs.bytes.room_for.Given as goal

abbrev pub invariant-loop-byte : goal.invariant-loop-byte
invariant-loop-byte l = record {
  so_far : l.room ≡ sum_by room_of (take l.byte-index l.bytes);
  few : l.room ≤ 7 * l.byte-index;
}
