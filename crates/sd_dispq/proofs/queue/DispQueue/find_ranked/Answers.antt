use Rattle.std.proofs.Common.{◌≤◌, length, sym, ap, ◌∙◌, subst, arith}
use Rattle.sd_boxq.specs.Order.{find_id}
use Rattle.sd_dispq.proofs.RankLemmas.{HasRank, none_so_high, ranked_there}
use Rattle.sd_dispq.proofs.queue.DispQueue.find_ranked.Goals as goal

pub returns-then-rank-ge-LEVELS : goal.returns-then-rank-ge-LEVELS
returns-then-rank-ge-LEVELS g c = λ a.
    let k = c.self.invariant.0 in
    let h : length c.self.inside.levels ≤ c.args.rank = omega arith in
    sym
    (ap (find_id g.T.Ranked.id c.args.id) (sym c.self.view_is)
    ∙ none_so_high g.T.Ranked.rank g.T.Ranked.key g.T.Ranked.id c.args.id c.self.inside.levels c.args.rank c.self.invariant.1 h
    (subst (HasRank g.T.Ranked.rank g.T.Ranked.key g.T.Ranked.id c.args.id c.args.rank) (sym c.self.view_is) a))

pub returns : goal.returns
returns g c = λ a.
    let k = c.self.invariant.0 in
    let l = c.level_of.ensures in
    c.find.ensures ∙ ap (find_id g.T.Ranked.id c.args.id) c.level.ensures
    ∙ (ranked_there g.T.Ranked.rank g.T.Ranked.key g.T.Ranked.id c.args.id c.self.inside.levels c.level_of.result c.args.rank c.self.invariant.1 (omega arith)
    (subst (HasRank g.T.Ranked.rank g.T.Ranked.key g.T.Ranked.id c.args.id c.args.rank) (sym c.self.view_is) a)).0
    ∙ ap (find_id g.T.Ranked.id c.args.id) c.self.view_is
