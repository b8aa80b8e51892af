use Rattle.std.proofs.Common.{◌<◌, ◌^◌, sym, ap, ◌∙◌, subst}
use Rattle.sd_turnstile.specs.Waiters.{waiter_count}
use Rattle.sd_turnstile.specs.Serving.{served}
use Rattle.sd_turnstile.proofs.ChainLemmas.{lock_is}
use Rattle.sd_turnstile.proofs.chain.TurnstileChain.waiters.Goals as goal

pub len-requires : goal.len-requires
len-requires g c =
    let lock = lock_is c.self.inside.chain c.self.inside.locks c.args.self.now c.args.l.0 c.at.result.now c.self.view_is c.at.ensures c.requires.of_chain.0 c.self.invariant.1 ∙ ap served c.in-Some.is in
    subst (λ w. waiter_count w < 2 ^ 32) lock c.requires.count

pub returns-in-None : goal.returns-in-None
returns-in-None g c =
    let lock = lock_is c.self.inside.chain c.self.inside.locks c.args.self.now c.args.l.0 c.at.result.now c.self.view_is c.at.ensures c.requires.of_chain.0 c.self.invariant.1 ∙ ap served c.in-None.is in
    sym (ap waiter_count lock)

pub returns-in-Some : goal.returns-in-Some
returns-in-Some g c =
    let lock = lock_is c.self.inside.chain c.self.inside.locks c.args.self.now c.args.l.0 c.at.result.now c.self.view_is c.at.ensures c.requires.of_chain.0 c.self.invariant.1 ∙ ap served c.in-Some.is in
    c.len.ensures ∙ ap waiter_count (sym lock)
