use Rattle.std.proofs.Common.{int_lt, IfSome, ◌∙◌, ap, sym, subst, []}
use Rattle.std.specs.Option.{option_copied}
use Rattle.std.proofs.lemmas.Option.{get_or_from_slice_get}
use Rattle.sd_boxq.specs.Order.{IsBest, precedes, find_below}
use Rattle.sd_boxq.proofs.InOrder.{best_first}
use Rattle.sd_sleepq.specs.Sleepers.{sleepers_of}
use Rattle.sd_sleepq.proofs.Ordered.{same_number, IsRanked-read}
use Rattle.sd_sleepq.proofs.chain.SleepChain.best.Goals as goal

pub returns-clause-best : goal.returns-clause-best
returns-clause-best g c =
    let rank = g.T.Ranked.rank in
    let key = g.T.Ranked.key in
    let q = c.at.result.now in
    let order = IsRanked-read rank key c.self.inside.queues _ q c.at.ensures c.self.invariant.2 in
    let same = sym (get_or_from_slice_get c.self.inside.queues _ q [] c.at.ensures) ∙ ap (λ a. sleepers_of a c.args.k.0) c.self.view_is in
    subst (λ xs. IfSome (option_copied c.first_below.result) (λ x. IsBest (λ y. int_lt (key y) c.args.below) (precedes rank key) x xs)) same
    (best_first rank key (λ x. int_lt (key x) c.args.below) q (option_copied c.first_below.result) order (c.first_below.ensures ∙ ap (λ z. find_below key z q) (same_number c.args.below c.ranges.below)))
