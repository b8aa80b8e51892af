use Rattle.std.proofs.Common.{sym, ap, ◌∙◌, subst, slice_get}
use Rattle.sd_dispq.specs.Ranks.{IsByRank}
use Rattle.sd_dispq.proofs.LevelLemmas.{in_order}
use Rattle.sd_dispq.proofs.QueueLemmas.{is_rank, best_there}
use Rattle.sd_dispq.proofs.queue.DispQueue.best.Goals as goal

pub level_of-requires : goal.level_of-requires
level_of-requires g c = is_rank g.T.Ranked.rank c.self.inside.levels _ _ c.self.invariant c.in-Some.is

pub returns-in-None-clause-order : goal.returns-in-None-clause-order
returns-in-None-clause-order g c = subst (IsByRank g.T.Ranked.rank) c.self.view_is (in_order g.T.Ranked.rank c.self.inside.levels c.self.invariant.1)

pub returns-in-Some-clause-value : goal.returns-in-Some-clause-value
returns-in-Some-clause-value g c =
    let b = best_there g.T.Ranked.rank c.self.inside.levels _ c.level_of.result _ c.self.invariant c.in-Some.is c.level_of.ensures in
    c.first.ensures ∙ ap (λ xs. slice_get xs 0) c.level.ensures ∙ b.first ∙ sym (ap (λ xs. slice_get xs 0) b.all) ∙ ap (λ xs. slice_get xs 0) c.self.view_is

pub returns-in-Some-clause-order : goal.returns-in-Some-clause-order
returns-in-Some-clause-order g c = subst (IsByRank g.T.Ranked.rank) c.self.view_is (in_order g.T.Ranked.rank c.self.inside.levels c.self.invariant.1)
