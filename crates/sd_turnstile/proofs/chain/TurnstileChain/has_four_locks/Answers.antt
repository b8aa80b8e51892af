use Rattle.std.proofs.Common.{length, sym, ap, ◌∙◌}
use Rattle.sd_turnstile.proofs.ChainLemmas.{are_ranked, as_many}
use Rattle.sd_turnstile.proofs.chain.TurnstileChain.has_four_locks.Goals as goal

pub returns-clause-four : goal.returns-clause-four
returns-clause-four g c = ap (λ b. length b.locks) (sym c.self.view_is) ∙ as_many c.self.inside.locks ∙ c.self.invariant.1

pub returns-clause-order : goal.returns-clause-order
returns-clause-order g c =
    are_ranked g.T.Ranked.rank g.T.Ranked.key c.self.inside.chain c.self.inside.locks c.args.self.now c.self.invariant.2 c.self.view_is
