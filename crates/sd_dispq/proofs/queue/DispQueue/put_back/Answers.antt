use Rattle.std.proofs.Common.{ap, ◌∙◌}
use Rattle.sd_dispq.specs.Ranks.{put_back}
use Rattle.sd_dispq.proofs.QueueLemmas.{to_back}
use Rattle.sd_dispq.proofs.queue.DispQueue.put_back.Goals as goal

pub invariant_of-self : goal.invariant_of-self
invariant_of-self g c =
    (to_back g.T.Ranked.rank c.self.inside.levels _ _ _ c.level_of.result c.rank-rank.result c.args.n c.self.invariant
    (c.rank-rank.ensures ∙ ap g.T.Ranked.rank c.item.ensures) c.level_of.ensures c.raise-self-inside.ensures c.push_back.ensures).0

pub returns : goal.returns
returns g c =
    (to_back g.T.Ranked.rank c.self.inside.levels _ _ _ c.level_of.result c.rank-rank.result c.args.n c.self.invariant
    (c.rank-rank.ensures ∙ ap g.T.Ranked.rank c.item.ensures) c.level_of.ensures c.raise-self-inside.ensures c.push_back.ensures).1
    ∙ ap (put_back g.T.Ranked.rank c.args.n) c.self.view_is
