use Rattle.std.proofs.Common.{◌≡◌, ◌≤◌, drop, length, take, Some}
use Rattle.std.specs.List.{sum_by}
use Rattle.sd_encoding.specs.Bytes.{numbers_in}
use Rattle.sd_encoding.specs.Placing.{AreZeros, room_of}
use Rattle.sd_encoding.proofs.bytes.place_all.Given as goal

abbrev pub invariant-loop-index : goal.invariant-loop-index
invariant-loop-index l = record {
  read : numbers_in (drop l.index l.bytes) ≡ Some (drop l.at l.numbers);
  zeros : AreZeros l.at l.numbers;
  room : l.at ≡ sum_by room_of (take l.index l.bytes);
  within : l.at ≤ length l.numbers;
  inside : l.index ≤ length l.bytes;
}

abbrev pub decreases-loop-index : goal.decreases-loop-index
decreases-loop-index l = l.index
