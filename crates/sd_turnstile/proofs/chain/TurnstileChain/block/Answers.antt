use Rattle.std.proofs.Common.{◌<◌, ◌+◌, ◌/◌, set, sym, ap, ◌∙◌, subst, arith}
use Rattle.sd_boxq.specs.Order.{insert_ranked}
use Rattle.sd_turnstile.specs.Waiters.{on_side, with_side}
use Rattle.sd_turnstile.specs.Serving.{served, held}
use Rattle.sd_turnstile.proofs.ChainLemmas.{lock_set, Sound, Sound-comes}
use Rattle.sd_turnstile.proofs.chain.TurnstileChain.block.Goals as goal

pub invariant_of-self : goal.invariant_of-self
invariant_of-self g c =
    let rank = g.T.Ranked.rank in
    let key = g.T.Ranked.key in
    let m = c.requires.of_chain.0 in
    let within : c.args.l.0 / 64 < 4 = omega arith in
    let comes = c.blocked-turnstile.ensures.waiters
    ∙ ap (λ o. with_side (served o) c.args.side (insert_ranked rank key c.args.n (on_side (served o) c.args.side))) c.take.ensures.value in
    let spares = c.blocked-turnstile.ensures.spares ∙ ap (λ o. c.self.inside.free + held o) c.take.ensures.value in
    subst (λ t. Sound rank key c.self.inside.chain (set c.self.inside.locks (c.args.l.0 / 64) t) c.blocked-turnstile.new.free) (sym c.fill.ensures)
    (Sound-comes rank key c.self.inside.chain c.self.inside.locks c.self.inside.free _ (c.args.l.0 / 64) c.at_mut-slot.result.now c.blocked-turnstile.result c.args.side c.args.n
    c.self.invariant c.at_mut-slot.ensures.value within comes spares)

pub returns : goal.returns
returns g c =
    let rank = g.T.Ranked.rank in
    let key = g.T.Ranked.key in
    let comes = c.blocked-turnstile.ensures.waiters
    ∙ ap (λ o. with_side (served o) c.args.side (insert_ranked rank key c.args.n (on_side (served o) c.args.side))) c.take.ensures.value in
    lock_set c.self.inside.chain c.self.inside.locks c.args.self.now c.args.l.0 c.at_mut-slot.result.now c.self.view_is c.at_mut-slot.ensures.value c.requires.of_chain.0 c.self.invariant.1
    c.fill.new.slot c.args.side (insert_ranked rank key c.args.n) (ap served c.fill.ensures ∙ comes)
