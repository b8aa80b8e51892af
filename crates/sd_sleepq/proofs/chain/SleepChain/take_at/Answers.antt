use Rattle.std.proofs.Common.{◌==◌, length-set, ◌∙◌, sym, subst}
use Rattle.sd_boxq.specs.Order.{IsRanked}
use Rattle.sd_boxq.proofs.InOrder.{IsRanked-drop_first}
use Rattle.sd_sleepq.proofs.Ordered.{IsRanked-read, AreRanked-set}
use Rattle.sd_sleepq.proofs.chain.SleepChain.take_at.Goals as goal

pub invariant_of-self : goal.invariant_of-self
invariant_of-self g c =
    let rank = g.T.Ranked.rank in
    let key = g.T.Ranked.key in
    let q = c.at_mut-queue.result.now in
    let old = IsRanked-read rank key c.self.inside.queues _ q c.at_mut-queue.ensures.value c.self.invariant.2 in (
      c.self.invariant.0,
      length-set c.self.inside.queues _ _ ∙ c.self.invariant.1,
      AreRanked-set rank key c.self.inside.queues _ _ c.self.invariant.2 (subst (IsRanked rank key) (sym c.take_first.ensures.rest) (IsRanked-drop_first rank key (λ x. g.T.Ranked.id x == c.args.id) q old)),
    )
