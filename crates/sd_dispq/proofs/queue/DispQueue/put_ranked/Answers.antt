use Rattle.std.proofs.Common.{ap, ◌∙◌}
use Rattle.sd_boxq.specs.Order.{insert_ranked}
use Rattle.sd_dispq.proofs.QueueLemmas.{to_rank_by_key}
use Rattle.sd_dispq.proofs.queue.DispQueue.put_ranked.Goals as goal

pub invariant_of-self : goal.invariant_of-self
invariant_of-self g c =
    (to_rank_by_key g.T.Ranked.rank c.self.inside.levels _ _ _ c.level_of.result c.rank-rank.result c.args.n c.self.invariant
    (c.rank-rank.ensures ∙ ap g.T.Ranked.rank c.item.ensures) c.level_of.ensures c.raise-self-inside.ensures g.T.Ranked.key c.insert_by_key.ensures).0

pub returns : goal.returns
returns g c =
    (to_rank_by_key g.T.Ranked.rank c.self.inside.levels _ _ _ c.level_of.result c.rank-rank.result c.args.n c.self.invariant
    (c.rank-rank.ensures ∙ ap g.T.Ranked.rank c.item.ensures) c.level_of.ensures c.raise-self-inside.ensures g.T.Ranked.key c.insert_by_key.ensures).1
    ∙ ap (insert_ranked g.T.Ranked.rank g.T.Ranked.key c.args.n) c.self.view_is
