use Rattle.arrayvec.specs.ArrayVec.{array_vec_len}
use Rattle.std.proofs.Common.{◌≡◌, ◌-◌}
use Rattle.sd_encoding.specs.Reading.{items_at}
use Rattle.sd_encoding.proofs.ItemLemmas.{with_front}
use Rattle.sd_encoding.proofs.arrays.read_array.Given as goal

abbrev pub invariant-loop : goal.invariant-loop
invariant-loop g l = record {
  read : with_front l.items.items (items_at g.T.Packed.at (l.count - l.counter) l.rest) ≡ items_at g.T.Packed.at l.count l.numbers;
  length : array_vec_len l.items ≡ l.counter;
}
