use Rattle.sd_shared_table.specs.Seats.{id_of, work_of}
use Rattle.sd_shared_table_tests.specs.Sitting.{IsWorldAfter}
use Rattle.sd_shared_table_tests.proofs.counting.try_turns.Given as goal

abbrev pub invariant-loop-turn : goal.invariant-loop-turn
invariant-loop-turn l = IsWorldAfter (id_of l.shared) (work_of l.shared) l.fn.seat l.world.table
