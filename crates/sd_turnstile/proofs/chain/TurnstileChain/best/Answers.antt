use Rattle.std.proofs.Common.{slice_get, sym, ap, ◌∙◌}
use Rattle.sd_turnstile.specs.Waiters.{on_side}
use Rattle.sd_turnstile.specs.Serving.{served}
use Rattle.sd_turnstile.proofs.ChainLemmas.{lock_is, nobody_there, are_ranked, first_best}
use Rattle.sd_turnstile.proofs.chain.TurnstileChain.best.Goals as goal

pub returns-in-None-clause-value : goal.returns-in-None-clause-value
returns-in-None-clause-value g c =
    let lock = lock_is c.self.inside.chain c.self.inside.locks c.args.self.now c.args.l.0 c.at.result.now c.self.view_is c.at.ensures c.requires.0 c.self.invariant.1 ∙ ap served c.in-None.is in
    sym (ap (λ w. slice_get (on_side w c.args.side) 0) lock ∙ ap (λ xs. slice_get xs 0) (nobody_there c.args.side))

pub returns-in-None-clause-order : goal.returns-in-None-clause-order
returns-in-None-clause-order g c =
    are_ranked g.T.Ranked.rank g.T.Ranked.key c.self.inside.chain c.self.inside.locks c.args.self.now c.self.invariant.2 c.self.view_is c.args.l.0 c.args.side

pub returns-in-Some-clause-value : goal.returns-in-Some-clause-value
returns-in-Some-clause-value g c =
    let lock = lock_is c.self.inside.chain c.self.inside.locks c.args.self.now c.args.l.0 c.at.result.now c.self.view_is c.at.ensures c.requires.0 c.self.invariant.1 ∙ ap served c.in-Some.is in
    c.first.ensures ∙ ap (λ w. slice_get (on_side w c.args.side) 0) (sym lock)

pub returns-in-Some-clause-order : goal.returns-in-Some-clause-order
returns-in-Some-clause-order g c =
    are_ranked g.T.Ranked.rank g.T.Ranked.key c.self.inside.chain c.self.inside.locks c.args.self.now c.self.invariant.2 c.self.view_is c.args.l.0 c.args.side

pub returns-in-Some-clause-best : goal.returns-in-Some-clause-best
returns-in-Some-clause-best g c =
    let lock = lock_is c.self.inside.chain c.self.inside.locks c.args.self.now c.args.l.0 c.at.result.now c.self.view_is c.at.ensures c.requires.0 c.self.invariant.1 ∙ ap served c.in-Some.is in
    first_best g.T.Ranked.rank g.T.Ranked.key _ _
    (are_ranked g.T.Ranked.rank g.T.Ranked.key c.self.inside.chain c.self.inside.locks c.args.self.now c.self.invariant.2 c.self.view_is c.args.l.0 c.args.side)
    (c.first.ensures ∙ ap (λ w. slice_get (on_side w c.args.side) 0) (sym lock))
