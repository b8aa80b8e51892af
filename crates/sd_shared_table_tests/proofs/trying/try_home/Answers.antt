use Rattle.sd_shared_table.specs.Seats.{id_of, work_of}
use Rattle.sd_shared_table_tests.proofs.SeatLemmas as S
use Rattle.sd_shared_table_tests.proofs.trying.try_home.Goals as goal

pub try_take-requires-clause-can : goal.try_take-requires-clause-can
try_take-requires-clause-can c = S.can_take (id_of c.args.shared.now) (work_of c.args.shared.now) c.args.seat.now c.requires.fits c.requires.free

pub returns : goal.returns
returns c = S.tried (id_of c.args.shared.now) (work_of c.args.shared.now) c.args.seat.now c.try_take.new.seat _ c.try_take.result c.requires.free c.try_take.ensures.fits c.try_take.ensures.takes
