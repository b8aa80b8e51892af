use Rattle.sd_store.proofs.TickLemmas.{does_ticked}
use Rattle.sd_store.proofs.store.tick.Goals as goal

pub returns-clause-value : goal.returns-clause-value
returns-clause-value g c =
    does_ticked (g.S.Look.shows c.args.x.now) (g.S.Look.shows c.change_body.new.self) c.change_body.result c.args.work.now c.args.t c.change_body.ensures.value
