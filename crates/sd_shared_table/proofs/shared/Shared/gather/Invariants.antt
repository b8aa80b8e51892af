use Rattle.std.proofs.Common.{◌≡◌, ◌++◌, length}
use Rattle.std.specs.Vec.Iter.{into_iter_items, into_iter_len}
use Rattle.sd_shared_table.specs.Seats.{id_of}
use Rattle.sd_shared_table.specs.Whole.{IsGathered}
use Rattle.sd_shared_table.proofs.shared.Shared.gather.Given as goal

abbrev pub invariant-loop-seat : goal.invariant-loop-seat
invariant-loop-seat l = (l.yielded ++ into_iter_items l.seat-iterator ≡ into_iter_items l.initial.seat-iterator)
    × IsGathered (id_of l.self) l.yielded l.gathered
    × (into_iter_len l.seat-iterator ≡ length (into_iter_items l.seat-iterator))
