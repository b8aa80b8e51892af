use Rattle.sd_shared_table.specs.Seats.{work_of}
use Rattle.sd_threads.proofs.AsWorld.{busy_as, takes_as}
use Rattle.sd_threads.proofs.world.TableWorldWorld.take.Goals as goal

pub try_take-requires-clause-can : goal.try_take-requires-clause-can
try_take-requires-clause-can c = let can = c.requires.can in record { there = can.there; room = can.room; fresh = can.fresh }

pub returns-in-Taken-clause-takes : goal.returns-in-Taken-clause-takes
returns-in-Taken-clause-takes c =
    let x = c.args.self.now in
    takes_as (work_of x.shared.now) x.seat c.try_take.new.seat x.stops c.args.k c.in-Taken.ensures.takes

pub returns-in-Busy-clause-takes : goal.returns-in-Busy-clause-takes
returns-in-Busy-clause-takes c = busy_as c.args.self.now c.stop.new.self c.try_take.new.seat c.stop.ensures.stops c.stop.ensures.rises c.args.k c.in-Busy.holder c.in-Busy.ensures.takes
