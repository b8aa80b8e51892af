use Rattle.sd_shared_table.specs.Seats.{id_of, work_of}
use Rattle.sd_shared_table_tests.specs.Sitting.{IsFreeAfter}
use Rattle.sd_shared_table_tests.proofs.sharing.try_often.Given as goal

abbrev pub invariant-loop : goal.invariant-loop
invariant-loop l = IsFreeAfter (id_of l.shared) (work_of l.shared) l.fn.seat l.trying
