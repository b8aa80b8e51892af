use Rattle.std.proofs.Common.{Some}
use Rattle.sd_boxq.specs.Order.{drop_id}
use Rattle.sd_homes.specs.Standing.{id_of}
use Rattle.sd_homes.specs.Homes.{running_on, with_queue, with_running}
use Rattle.sd_homes.proofs.AbsentLemmas.{queue_kept}
use Rattle.sd_homes.proofs.cpu.CpuHome.run_queued.Goals as goal

pub returns-in-None-clause-runs : goal.returns-in-None-clause-runs
returns-in-None-clause-runs c =
    queue_kept _ c.args.self.now c.args.t.0 c.from.result c.take.new.self (λ r h. with_running (Some (running_on c.args.c r)) (with_queue (drop_id id_of c.args.t.0 h.queue) h)) c.self.view_is c.from.ensures c.in-None.ensures.taken c.in-None.ensures.rest
