use Rattle.std.proofs.Common.{◌≡◌, List, ◌∷◌, true, sym, ap, ◌∙◌, subst}
use Rattle.sd_boxq.specs.Order.{find_first}
use Rattle.sd_boxq.proofs.InOrder.{best_first}
use Rattle.sd_dispq.specs.Ranks.{IsByRank}
use Rattle.sd_dispq.proofs.LevelLemmas.{in_order}
use Rattle.sd_dispq.specs.Levels.{all_of}
use Rattle.sd_dispq.proofs.QueueLemmas.{is_rank, best_there, none_there, levelled_without}
use Rattle.sd_dispq.proofs.queue.DispQueue.take_best.Goals as goal

pub level_of-requires : goal.level_of-requires
level_of-requires g c = is_rank g.T.Ranked.rank c.self.inside.levels _ _ c.self.invariant c.in-Some.is

pub greatest_of-self-inside-requires-clause-levelled : goal.greatest_of-self-inside-requires-clause-levelled
greatest_of-self-inside-requires-clause-levelled g c =
    (levelled_without g.T.Ranked.rank c.self.inside.levels _ c.level_of.result _ c.self.invariant.0 c.self.invariant.1 c.level_of.ensures c.pop_front-taken.ensures.rest).1

pub invariant_of-self : goal.invariant_of-self
invariant_of-self g c =
    let k = levelled_without g.T.Ranked.rank c.self.inside.levels _ c.level_of.result _ c.self.invariant.0 c.self.invariant.1 c.level_of.ensures c.pop_front-taken.ensures.rest in
    (k.0, k.1, c.greatest_of-self-inside.ensures)

pub returns-in-None : goal.returns-in-None
returns-in-None g c =
    let e = sym c.self.view_is ∙ none_there g.T.Ranked.rank c.self.inside.levels _ c.self.invariant c.in-None.is in record {
      taken = (e, e);
      order = subst (IsByRank g.T.Ranked.rank) c.self.view_is (in_order g.T.Ranked.rank c.self.inside.levels c.self.invariant.1);
      best = λ _. tt;
    }

taken_first : {X : Type 0} (ls : List (List X)) (xs : List X) (y : X) (ys : List X) → all_of ls ≡ xs → all_of ls ≡ y ∷ ys → xs ≡ y ∷ ys
taken_first ls xs y ys v a = sym v ∙ a

pub returns-in-Some : goal.returns-in-Some
returns-in-Some g c =
    let b = best_there g.T.Ranked.rank c.self.inside.levels _ c.level_of.result _ c.self.invariant c.in-Some.is c.level_of.ensures in
    let first = c.pop_front-taken.ensures.taken ∙ b.first in
    let all = taken_first c.self.inside.levels c.args.self.now b.y b.ys c.self.view_is b.all in
    record {
      taken = rw first (all ∙ ap (λ xs. b.y ∷ xs) (sym (ap all_of c.pop_front-taken.ensures.rest ∙ b.rest)));
      order = subst (IsByRank g.T.Ranked.rank) c.self.view_is (in_order g.T.Ranked.rank c.self.inside.levels c.self.invariant.1);
      best = λ r. best_first g.T.Ranked.rank g.T.Ranked.key (λ _. true) c.args.self.now c.pop_front-taken.result r (first ∙ sym (ap (find_first (λ _. true)) all));
    }
