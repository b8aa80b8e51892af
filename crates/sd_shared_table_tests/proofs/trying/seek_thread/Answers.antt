use Rattle.sd_shared_table.specs.Seats.{id_of, work_of}
use Rattle.sd_shared_table_tests.proofs.SeatLemmas as S
use Rattle.sd_shared_table_tests.proofs.trying.seek_thread.Goals as goal

pub returns : goal.returns
returns c = S.sought (id_of c.args.shared.now) (work_of c.args.shared.now) c.args.seat.now c.try_lock_thread.new.seat _ c.try_lock_thread.result c.requires.free c.try_lock_thread.ensures.fits c.try_lock_thread.ensures.locks
