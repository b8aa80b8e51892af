use Rattle.std.proofs.Common.{length-set, int_lt, IfSome, ◌∙◌, ap, sym, subst, []}
use Rattle.std.proofs.lemmas.Option.{get_or_from_slice_get}
use Rattle.sd_boxq.specs.Order.{IsRanked, IsBest, precedes, find_below, drop_below}
use Rattle.sd_sleepq.specs.Sleepers.{sleepers_of}
use Rattle.sd_boxq.proofs.InOrder.{IsRanked-drop_first, best_first}
use Rattle.sd_sleepq.proofs.Ordered.{same_number, IsRanked-read, AreRanked-set}
use Rattle.sd_sleepq.proofs.chain.SleepChain.take_best.Goals as goal

pub invariant_of-self : goal.invariant_of-self
invariant_of-self g c =
    let rank = g.T.Ranked.rank in
    let key = g.T.Ranked.key in
    let q = c.at_mut-queue.result.now in
    let old = IsRanked-read rank key c.self.inside.queues _ q c.at_mut-queue.ensures.value c.self.invariant.2 in (
      c.self.invariant.0,
      length-set c.self.inside.queues _ _ ∙ c.self.invariant.1,
      AreRanked-set rank key c.self.inside.queues _ _ c.self.invariant.2 (subst (IsRanked rank key) (sym (c.take_below.ensures.rest ∙ ap (λ z. drop_below key z q) (same_number c.args.below c.ranges.below))) (IsRanked-drop_first rank key (λ x. int_lt (key x) c.args.below) q old)),
    )

pub returns-clause-best : goal.returns-clause-best
returns-clause-best g c =
    let rank = g.T.Ranked.rank in
    let key = g.T.Ranked.key in
    let q = c.at_mut-queue.result.now in
    let old = IsRanked-read rank key c.self.inside.queues _ q c.at_mut-queue.ensures.value c.self.invariant.2 in
    let same = sym (get_or_from_slice_get c.self.inside.queues _ q [] c.at_mut-queue.ensures.value) ∙ ap (λ a. sleepers_of a c.args.k.0) c.self.view_is in
    subst (λ xs. IfSome c.take_below.result (λ x. IsBest (λ y. int_lt (key y) c.args.below) (precedes rank key) x xs)) same
    (best_first rank key (λ x. int_lt (key x) c.args.below) q c.take_below.result old (c.take_below.ensures.taken ∙ ap (λ z. find_below key z q) (same_number c.args.below c.ranges.below)))
