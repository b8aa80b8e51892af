use Rattle.sd_shared_table.specs.Seats.{id_of, work_of}
use Rattle.sd_shared_table_tests.specs.Sitting.{IsWorldAfter}
use Rattle.sd_shared_table_tests.proofs.sharing.four_turns.Given as goal

abbrev pub invariant-loop-number : goal.invariant-loop-number
invariant-loop-number g l = IsWorldAfter (id_of l.shared) (work_of l.shared) l.fn.seat l.world
