use Rattle.std.proofs.Common.{◌+◌, inr, subst}
use Rattle.sd_basics.proofs.Results.{done}
use Rattle.sd_dispatcher.proofs.Finished.{left_yielded, runs_finished}
use Rattle.sd_dispatcher.proofs.RunningLemmas.{missed}
use Rattle.sd_dispatcher.proofs.running.yielded.Goals as goal

pub returns-clause-value : goal.returns-clause-value
returns-clause-value g c =
    done c.left_for_queue.result _ _
    (λ made. λ s shows can. subst (λ r. g.S.Look.shows c.left_for_queue.new.x (c.args.number + 1) r)
    (left_yielded c.args.work.now s c.args.number c.args.c c.args.t.0 _ _ _ (c.in_ok-body.ensures.value c.args.number s shows) c.effective_in-p.ensures c.bound_in-bound.ensures)
    (made _ (c.in_ok-finish_op.ensures.value c.args.number s shows can.1) (runs_finished c.args.work.now s c.args.t c.args.c can.0)))
    c.left_for_queue.ensures.value

pub returns-clause-lack : goal.returns-clause-lack
returns-clause-lack g c =
    missed c.left_for_queue.result g.S.Look.part (g.S.Look.has c.args.x.now) (g.S.Look.has c.finish_op.new.x) _ _ c.in_ok-finish_op.ensures.has
    (λ q. λ lack. λ s shows can. inr (lack _ (c.in_ok-finish_op.ensures.value c.args.number s shows can.1)
    (runs_finished c.args.work.now s c.args.t c.args.c can.0)))
    c.left_for_queue.ensures.lack
