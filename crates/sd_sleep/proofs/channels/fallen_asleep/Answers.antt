use Rattle.std.proofs.Common.{◌+◌, subst}
use Rattle.sd_basics.proofs.Results.{done}
use Rattle.sd_dispatcher.proofs.Finished.{runs_finished}
use Rattle.sd_sleep.proofs.Leaving.{finished_chan, left_asleep}
use Rattle.sd_sleep.proofs.channels.fallen_asleep.Goals as goal

pub returns-clause-value : goal.returns-clause-value
returns-clause-value g c =
    done c.leave.result _ _
    (λ made. λ s shows can. subst (λ r. g.S.Look.shows c.leave.new.self (c.args.number + 1) r)
    (left_asleep c.args.work.now s c.args.number c.args.c c.args.t.0 c.args.k)
    (made _ (c.in_ok-finish_op.ensures.value c.args.number s shows can.0.op)
    (runs_finished c.args.work.now s c.args.t c.args.c can.0.place, finished_chan c.args.work.now s c.args.t.0 c.args.k can.1)))
    c.leave.ensures.value
