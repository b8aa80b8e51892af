use Rattle.std.proofs.Common.{◌≤◌, length, sym, ap, ◌∙◌, subst, arith}
use Rattle.sd_boxq.specs.Order.{find_id, drop_id}
use Rattle.sd_dispq.specs.Levels.{all_of}
use Rattle.sd_dispq.proofs.LevelLemmas.{drop-absent}
use Rattle.sd_dispq.proofs.RankLemmas.{HasRank, levelled_taken, none_so_high, ranked_there}
use Rattle.sd_dispq.proofs.queue.DispQueue.take_ranked.Goals as goal

pub returns-then-rank-ge-LEVELS-clause-taken : goal.returns-then-rank-ge-LEVELS-clause-taken
returns-then-rank-ge-LEVELS-clause-taken g c = λ a.
    let k = c.self.invariant.0 in
    let h : length c.self.inside.levels ≤ c.args.rank = omega arith in
    sym
    (ap (find_id g.T.Ranked.id c.args.id) (sym c.self.view_is)
    ∙ none_so_high g.T.Ranked.rank g.T.Ranked.key g.T.Ranked.id c.args.id c.self.inside.levels c.args.rank c.self.invariant.1 h
    (subst (HasRank g.T.Ranked.rank g.T.Ranked.key g.T.Ranked.id c.args.id c.args.rank) (sym c.self.view_is) a))

pub returns-then-rank-ge-LEVELS-clause-rest : goal.returns-then-rank-ge-LEVELS-clause-rest
returns-then-rank-ge-LEVELS-clause-rest g c = λ a.
    let k = c.self.invariant.0 in
    let h : length c.self.inside.levels ≤ c.args.rank = omega arith in
    let none = ap (find_id g.T.Ranked.id c.args.id) (sym c.self.view_is)
    ∙ none_so_high g.T.Ranked.rank g.T.Ranked.key g.T.Ranked.id c.args.id c.self.inside.levels c.args.rank c.self.invariant.1 h
    (subst (HasRank g.T.Ranked.rank g.T.Ranked.key g.T.Ranked.id c.args.id c.args.rank) (sym c.self.view_is) a) in
    c.self.view_is ∙ sym (drop-absent g.T.Ranked.id c.args.id c.args.self.now none)

pub greatest_of-self-inside-requires-clause-levelled : goal.greatest_of-self-inside-requires-clause-levelled
greatest_of-self-inside-requires-clause-levelled g c =
    (levelled_taken g.T.Ranked.rank g.T.Ranked.key g.T.Ranked.id c.args.id c.self.inside.levels _ c.level_of.result c.args.rank c.self.invariant.0 c.self.invariant.1 c.level_of.ensures c.take_first-taken.ensures.rest).1

pub invariant_of-self-2 : goal.invariant_of-self-2
invariant_of-self-2 g c =
    let k = levelled_taken g.T.Ranked.rank g.T.Ranked.key g.T.Ranked.id c.args.id c.self.inside.levels _ c.level_of.result c.args.rank c.self.invariant.0 c.self.invariant.1 c.level_of.ensures c.take_first-taken.ensures.rest in
    (k.0, k.1, c.greatest_of-self-inside.ensures)

pub returns-clause-taken : goal.returns-clause-taken
returns-clause-taken g c = λ a.
    let k = c.self.invariant.0 in
    let l = c.level_of.ensures in
    c.take_first-taken.ensures.taken
    ∙ (ranked_there g.T.Ranked.rank g.T.Ranked.key g.T.Ranked.id c.args.id c.self.inside.levels c.level_of.result c.args.rank c.self.invariant.1 (omega arith)
    (subst (HasRank g.T.Ranked.rank g.T.Ranked.key g.T.Ranked.id c.args.id c.args.rank) (sym c.self.view_is) a)).0
    ∙ ap (find_id g.T.Ranked.id c.args.id) c.self.view_is

pub returns-clause-rest : goal.returns-clause-rest
returns-clause-rest g c = λ a.
    let k = c.self.invariant.0 in
    let l = c.level_of.ensures in
    ap all_of c.take_first-taken.ensures.rest
    ∙ (ranked_there g.T.Ranked.rank g.T.Ranked.key g.T.Ranked.id c.args.id c.self.inside.levels c.level_of.result c.args.rank c.self.invariant.1 (omega arith)
    (subst (HasRank g.T.Ranked.rank g.T.Ranked.key g.T.Ranked.id c.args.id c.args.rank) (sym c.self.view_is) a)).1
    ∙ ap (drop_id g.T.Ranked.id c.args.id) c.self.view_is
