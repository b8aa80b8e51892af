use Rattle.std.proofs.Common.{◌+◌, inr, subst, ◌∙◌}
use Rattle.sd_basics.proofs.Results.{done}
use Rattle.sd_rules.specs.ClassRules.{class_requeue}
use Rattle.sd_dispatcher.proofs.RunningLemmas.{left_preempted, missed, runs_classed}
use Rattle.sd_dispatcher.proofs.running.preempted.Goals as goal

pub returns-clause-value : goal.returns-clause-value
returns-clause-value g c =
    done c.left_for_queue.result _ _
    (λ made. λ s shows runs. subst (λ r. g.S.Look.shows c.left_for_queue.new.x (c.args.number + 1) r)
    (left_preempted c.args.work.now s c.args.number c.args.c c.args.t.0 c.args.end _ _ _ c.class_requeue-class.result (c.in_ok-body.ensures.value c.args.number s shows)
    c.effective_in-p.ensures c.bound_in-bound.ensures (c.class_requeue-class.ensures ∙ (λ i. class_requeue (c.back.ensures i) (c.class_in.ensures i))))
    (made _ (c.in_ok-set_class.ensures.value c.args.number s shows tt) (runs_classed s c.args.t c.class_requeue-class.result c.args.c runs)))
    c.left_for_queue.ensures.value

pub returns-clause-lack : goal.returns-clause-lack
returns-clause-lack g c =
    missed c.left_for_queue.result g.S.Look.part (g.S.Look.has c.args.x.now) (g.S.Look.has c.set_class.new.x) _ _ c.in_ok-set_class.ensures.has
    (λ q. λ lack. λ s shows runs. inr (lack _ (c.in_ok-set_class.ensures.value c.args.number s shows tt) (runs_classed s c.args.t c.class_requeue-class.result c.args.c runs)))
    c.left_for_queue.ensures.lack
