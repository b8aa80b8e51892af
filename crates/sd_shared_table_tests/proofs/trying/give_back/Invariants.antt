use Rattle.sd_hand.specs.Hands.{how_many_held}
use Rattle.sd_shared_table.specs.Seats.{id_of, work_of}
use Rattle.sd_shared_table_tests.specs.Sitting.{GoesOn}
use Rattle.sd_shared_table_tests.proofs.trying.give_back.Given as goal

abbrev pub decreases-giving : goal.decreases-giving
decreases-giving l = how_many_held l.seat.acting.hand.slots

abbrev pub invariant-giving : goal.invariant-giving
invariant-giving l = GoesOn (id_of l.shared) (work_of l.shared) l.fn.seat l.seat
