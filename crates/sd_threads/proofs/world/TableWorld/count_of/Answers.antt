use Rattle.sd_shared_table.specs.Seats.{work_of}
use Rattle.sd_threads.proofs.AsWorld.{count_as}
use Rattle.sd_threads.proofs.world.TableWorld.count_of.Goals as goal

pub returns-clause-reads : goal.returns-clause-reads
returns-clause-reads c =
    let x = c.args.self.now in
    count_as (work_of x.shared.now) x.seat c.count_of.new.seat x.stops c.args.c.0 c.count_of.result c.count_of.ensures.counts
