use Rattle.sd_boxq.specs.Order.{drop_id, insert_ranked}
use Rattle.sd_homes.specs.Standing.{id_of, key_in, rank_of}
use Rattle.sd_homes.specs.Homes.{queued_as, with_queue}
use Rattle.sd_homes.proofs.AbsentLemmas.{queue_kept}
use Rattle.sd_homes.proofs.cpu.CpuHome.requeue.Goals as goal

pub returns-in-None-clause-moved : goal.returns-in-None-clause-moved
returns-in-None-clause-moved c =
    queue_kept _ c.args.self.now c.args.t.0 c.from.result c.take.new.self (λ r h. with_queue (insert_ranked rank_of key_in (queued_as c.args.class c.args.key r) (drop_id id_of c.args.t.0 h.queue)) h) c.self.view_is c.from.ensures c.in-None.ensures.taken
    c.in-None.ensures.rest
