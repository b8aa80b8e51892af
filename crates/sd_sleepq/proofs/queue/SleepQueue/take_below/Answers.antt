use Rattle.std.proofs.Common.{int_lt, sym, subst}
use Rattle.sd_sleepq.specs.Ends.{EndsBy}
use Rattle.sd_sleepq.proofs.Ends.{ends_once_left}
use Rattle.sd_sleepq.proofs.queue.SleepQueue.take_below.Goals as goal

pub invariant_of-self : goal.invariant_of-self
invariant_of-self g c =
    let rank = g.T.Ranked.rank in
    let key = g.T.Ranked.key in
    c.end_of-self-inside.ensures rank key
    (subst (EndsBy rank key c.self.inside.end.rank c.self.inside.end.key) (sym c.take_below-taken.ensures.rest)
    (ends_once_left rank key c.self.inside.end.rank c.self.inside.end.key (λ x. int_lt (key x) _) c.self.inside.boxes c.self.invariant))
