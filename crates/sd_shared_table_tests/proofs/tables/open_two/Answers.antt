use Rattle.sd_shared_table.specs.Seats.{id_of}
use Rattle.sd_shared_table_tests.proofs.SeatLemmas as S
use Rattle.sd_shared_table_tests.proofs.tables.open_two.Goals as goal

pub returns-clause-first : goal.returns-clause-first
returns-clause-first c = S.first_seat (id_of c.in_ok-shared.shared) c.args.work.now c.in_ok-shared.all.items c.in-Some.seats.first c.in-Some.seats.second c.in_ok-shared.ensures.seats c.in-Some.ensures

pub returns-clause-second : goal.returns-clause-second
returns-clause-second c = S.second_seat (id_of c.in_ok-shared.shared) c.args.work.now c.in_ok-shared.all.items c.in-Some.seats.first c.in-Some.seats.second c.in_ok-shared.ensures.seats c.in-Some.ensures
