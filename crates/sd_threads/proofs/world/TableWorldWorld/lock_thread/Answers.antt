use Rattle.std.proofs.Common.{refl}
use Rattle.sd_shared_table.specs.Seats.{work_of}
use Rattle.sd_threads.proofs.AsWorld.{lock_busy_as, locks_as, moved_as, thread_inside}
use Rattle.sd_threads.proofs.world.TableWorldWorld.lock_thread.Goals as goal

pub try_lock_thread-requires-clause-there : goal.try_lock_thread-requires-clause-there
try_lock_thread-requires-clause-there c =
    let x = c.args.self.now in
    thread_inside (work_of x.shared.now) _ x.seat c.args.t.0 c.requires.good c.requires.can.there

pub try_lock_thread-requires-clause-room : goal.try_lock_thread-requires-clause-room
try_lock_thread-requires-clause-room c = c.requires.can.room refl

pub returns-in-Held-clause-locks : goal.returns-in-Held-clause-locks
returns-in-Held-clause-locks c =
    let x = c.args.self.now in
    locks_as (work_of x.shared.now) x.seat c.try_lock_thread.new.seat x.stops c.args.t c.in-Held.home c.in-Held.ensures.locks (c.requires.can.fresh refl)

pub returns-in-Busy-clause-locks : goal.returns-in-Busy-clause-locks
returns-in-Busy-clause-locks c =
    lock_busy_as c.args.self.now c.stop.new.self c.try_lock_thread.new.seat c.stop.ensures.stops c.stop.ensures.rises c.args.t c.in-Busy.home c.in-Busy.holder c.in-Busy.ensures.locks

pub returns-in-Moved-clause-locks : goal.returns-in-Moved-clause-locks
returns-in-Moved-clause-locks c =
    moved_as c.args.self.now c.stop-in-Moved.new.self c.try_lock_thread.new.seat c.stop-in-Moved.ensures.stops c.stop-in-Moved.ensures.rises c.args.t c.in-Moved.from c.in-Moved.to c.in-Moved.ensures.locks
