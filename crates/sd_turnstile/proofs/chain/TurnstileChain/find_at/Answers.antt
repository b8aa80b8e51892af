use Rattle.std.proofs.Common.{sym, ap, ◌∙◌}
use Rattle.sd_boxq.specs.Order.{find_id}
use Rattle.sd_turnstile.specs.Waiters.{on_side}
use Rattle.sd_turnstile.specs.Serving.{served}
use Rattle.sd_turnstile.proofs.ChainLemmas.{lock_is, nobody_there}
use Rattle.sd_turnstile.proofs.chain.TurnstileChain.find_at.Goals as goal

pub returns-in-None : goal.returns-in-None
returns-in-None g c =
    let lock = lock_is c.self.inside.chain c.self.inside.locks c.args.self.now c.args.l.0 c.at.result.now c.self.view_is c.at.ensures c.requires.0 c.self.invariant.1 ∙ ap served c.in-None.is in
    sym (ap (λ w. find_id g.T.Ranked.id c.args.id (on_side w c.args.side)) lock ∙ ap (find_id g.T.Ranked.id c.args.id) (nobody_there c.args.side))

pub returns-in-Some : goal.returns-in-Some
returns-in-Some g c =
    let lock = lock_is c.self.inside.chain c.self.inside.locks c.args.self.now c.args.l.0 c.at.result.now c.self.view_is c.at.ensures c.requires.0 c.self.invariant.1 ∙ ap served c.in-Some.is in
    c.find.ensures ∙ ap (λ w. find_id g.T.Ranked.id c.args.id (on_side w c.args.side)) (sym lock)
