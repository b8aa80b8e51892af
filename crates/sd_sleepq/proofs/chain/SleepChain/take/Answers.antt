use Rattle.std.proofs.Common.{◌==◌, ◌∙◌, ◌+◌, ◌*◌, length-set, set, sym, subst}
use Rattle.sd_boxq.specs.Order.{IsRanked}
use Rattle.sd_boxq.proofs.InOrder.{IsRanked-drop_first}
use Rattle.sd_sleepq.specs.Sleepers.{Sleepers, Leaves}
use Rattle.sd_sleepq.proofs.Ordered.{IsRanked-read, AreRanked-set, has_left}
use Rattle.sd_sleepq.proofs.chain.SleepChain.take.Goals as goal

pub invariant_of-self : goal.invariant_of-self
invariant_of-self g c =
    let rank = g.T.Ranked.rank in
    let key = g.T.Ranked.key in
    let q = c.at_mut-queue.result.now in
    let old = IsRanked-read rank key c.self.inside.queues _ q c.at_mut-queue.ensures.value c.self.invariant.2 in (
      c.self.invariant.0,
      length-set c.self.inside.queues _ _ ∙ c.self.invariant.1,
      AreRanked-set rank key c.self.inside.queues _ _ c.self.invariant.2 (subst (IsRanked rank key) (sym c.take_first.ensures.rest) (IsRanked-drop_first rank key (λ x. g.T.Ranked.id x == c.args.id) q old)),
    )

pub returns-in-Some-take_first : goal.returns-in-Some-take_first
returns-in-Some-take_first g c =
    let id = g.T.Ranked.id in
    let k = c.self.inside.chain in
    let qs = c.self.inside.queues in
    let i = c.in-Some.index in
    let n = c.in-Some-take_first.n in
    let number = 64 * i + k in
    let old : Sleepers g.row.T.Denot = record { chain = k; queues = qs } in
    let found = sym c.take_first.ensures.taken ∙ c.in-Some-take_first.is in
    let left = has_left old c.self.invariant.1 id c.args.id i n _ c.self.invariant.0 c.in-Some.ensures c.at_mut-queue.ensures.value found in
    subst (λ s. Leaves id c.args.id s number n (record { chain = k; queues = set qs i c.take_first.new.self })) c.self.view_is
    (subst (λ xs. Leaves id c.args.id old number n (record { chain = k; queues = set qs i xs })) (sym c.take_first.ensures.rest) left)
