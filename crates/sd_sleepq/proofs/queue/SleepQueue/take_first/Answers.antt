use Rattle.std.proofs.Common.{◌==◌, sym, subst}
use Rattle.sd_sleepq.specs.Ends.{EndsBy}
use Rattle.sd_sleepq.proofs.Ends.{ends_once_left}
use Rattle.sd_sleepq.proofs.queue.SleepQueue.take_first.Goals as goal

pub invariant_of-self : goal.invariant_of-self
invariant_of-self g c =
    let rank = g.T.Ranked.rank in
    let key = g.T.Ranked.key in
    c.end_of-self-inside.ensures rank key
    (subst (EndsBy rank key c.self.inside.end.rank c.self.inside.end.key) (sym c.take_first-taken.ensures.rest)
    (ends_once_left rank key c.self.inside.end.rank c.self.inside.end.key (λ x. g.T.Ranked.id x == c.args.id) c.self.inside.boxes c.self.invariant))
