use Rattle.sd_priocntl.proofs.Walked.{lacks_before}
use Rattle.sd_priocntl.proofs.priocntl.reclassed.Goals as goal

pub returns-clause-lack : goal.returns-clause-lack
returns-clause-lack g c =
    lacks_before g.S.Look.part c.args.number (g.S.Look.shows c.args.x.now) (g.S.Look.shows c.set_class.new.x) (g.S.Look.has c.args.x.now) (g.S.Look.has c.set_class.new.x)
    c.args.work.now c.args.u c.args.at c.args.class c.reordered.result
    (λ s h. c.in_ok-set_class.ensures.value c.args.number s h tt) c.in_ok-set_class.ensures.has c.reordered.ensures.lack
