use Rattle.std.proofs.Common.{sym, ap, ◌∙◌, ◌<◌, ◌/◌, arith}
use Rattle.sd_turnstile.specs.Waiters.{highest_waiter}
use Rattle.sd_turnstile.specs.Serving.{served}
use Rattle.sd_turnstile.proofs.ChainLemmas.{lock_is, renamed, ranked_at}
use Rattle.sd_turnstile.proofs.chain.TurnstileChain.greatest.Goals as goal

pub greatest-requires : goal.greatest-requires
greatest-requires g c =
    let m = c.requires.0 in
    let within : c.args.l.0 / 64 < 4 = omega arith in
    let there = renamed c.self.inside.locks (c.args.l.0 / 64) _ _ c.in-Some.is c.at.ensures in
    let both = ranked_at g.T.Ranked.rank g.T.Ranked.key c.self.inside.chain c.self.inside.locks c.self.inside.free (c.args.l.0 / 64) _ c.self.invariant there within in
    record { writers = both.0; readers = both.1 }

pub returns-in-None : goal.returns-in-None
returns-in-None g c =
    let lock = lock_is c.self.inside.chain c.self.inside.locks c.args.self.now c.args.l.0 c.at.result.now c.self.view_is c.at.ensures c.requires.0 c.self.invariant.1 ∙ ap served c.in-None.is in
    sym (ap (highest_waiter g.T.Ranked.rank) lock)

pub returns-in-Some : goal.returns-in-Some
returns-in-Some g c =
    let lock = lock_is c.self.inside.chain c.self.inside.locks c.args.self.now c.args.l.0 c.at.result.now c.self.view_is c.at.ensures c.requires.0 c.self.invariant.1 ∙ ap served c.in-Some.is in
    c.greatest.ensures ∙ ap (highest_waiter g.T.Ranked.rank) (sym lock)
