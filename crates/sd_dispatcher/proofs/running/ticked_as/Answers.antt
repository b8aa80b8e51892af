use Rattle.std.proofs.Common.{subst}
use Rattle.sd_basics.proofs.Results.{done}
use Rattle.sd_dispatcher.proofs.RunningLemmas.{counted_class, counted_finish, ticked_by}
use Rattle.sd_dispatcher.proofs.running.ticked_as.Goals as goal

pub returns-clause-value : goal.returns-clause-value
returns-clause-value g c =
    done c.charge.result _ _
    (λ made. λ n s shows can.
    let counted = c.in_ok-count_tick.ensures.value n s shows can.0 in
    subst (λ r. g.S.Look.shows c.charge.new.x n r)
    (ticked_by c.args.work.now s c.args.c.0 c.args.t.0 c.args.expires (counted_class c.args.work.now s c.args.c.0 c.args.t.0 c.args.expires can.2))
    (made n _ (c.in_ok-tick.ensures.value n _ counted (counted_finish c.args.work.now s c.args.c.0 c.args.t can.1)) tt))
    c.charge.ensures.value
