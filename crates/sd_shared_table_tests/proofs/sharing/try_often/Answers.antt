use Rattle.std.proofs.Common.{refl}
use Rattle.sd_shared_table.specs.Seats.{id_of, work_of}
use Rattle.sd_shared_table_tests.proofs.SeatLemmas as S
use Rattle.sd_shared_table_tests.proofs.sharing.try_often.Goals as goal

pub loop-init : goal.loop-init
loop-init c = record { goes_on = record { fits = c.requires.fits; cpu = refl }; free = c.requires.free }

pub try_once-requires-clause-fits : goal.try_once-requires-clause-fits
try_once-requires-clause-fits c = c.loop.invariant.goes_on.fits

pub try_once-requires-clause-free : goal.try_once-requires-clause-free
try_once-requires-clause-free c = c.loop.invariant.free

pub loop-preserved : goal.loop-preserved
loop-preserved c = S.free_then (id_of c.args.shared.now) (work_of c.args.shared.now) c.args.seat c.loop.trying c.try_once.new.seat c.loop.invariant.goes_on c.try_once.ensures

pub returns : goal.returns
returns c = λ n is. S.seat_after (id_of c.args.shared.now) (work_of c.args.shared.now) n c.args.seat c.loop.trying is.cpu c.loop.invariant
