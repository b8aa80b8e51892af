use Rattle.std.proofs.Common.{◌<◌, sym, subst}
use Rattle.sd_hand.specs.declared.acting.Acting.{Acting}
use Rattle.sd_hand.specs.Hands.{how_many_held}
use Rattle.sd_shared_table.specs.Seats.{id_of, work_of}
use Rattle.sd_threads.proofs.Locking as L
use Rattle.sd_threads.proofs.threads.try_lock_thread.Goals as goal

pub try_home-requires-clause-room : goal.try_home-requires-clause-room
try_home-requires-clause-room c = subst (λ (a : Acting). how_many_held a.hand.slots < 4) (sym c.read_home-index.ensures.reads.acting) c.requires.room

pub try_home-requires-clause-fresh : goal.try_home-requires-clause-fresh
try_home-requires-clause-fresh c =
    let read = c.read_home-index in
    L.not_held-index (work_of c.args.shared.now) _ read.new.seat read.ensures.fits read.result.1 read.result.0 read.ensures.number c.in-Err.ensures.1

pub returns-in-Ok-clause-locks : goal.returns-in-Ok-clause-locks
returns-in-Ok-clause-locks c =
    let read = c.read_home-index in
    L.locked_already (work_of c.args.shared.now) _ c.args.seat.now read.new.seat c.args.t read.result.1 read.ensures.reads c.in-Ok.ensures.0 read.ensures.fits read.ensures.number.1 c.requires.there c.in-Ok.ensures.1

pub returns-in-Err-clause-locks : goal.returns-in-Err-clause-locks
returns-in-Err-clause-locks c =
    let read = c.read_home-index in
    L.locks_from (work_of c.args.shared.now) (id_of c.args.shared.now) c.args.seat.now read.new.seat c.args.t read.result.1 read.ensures.reads c.try_home.new.seat c.try_home.result c.try_home.ensures.tries
