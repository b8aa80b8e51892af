use Rattle.std.proofs.Common.{length, sym, ap, ◌∙◌}
use Rattle.sd_turnstile.proofs.ChainLemmas.{are_apart, as_many}
use Rattle.sd_turnstile.proofs.chain.TurnstileChain.locks_are_apart.Goals as goal

pub returns : goal.returns
returns g c = are_apart c.args.self.now (ap (λ b. length b.locks) (sym c.self.view_is) ∙ as_many c.self.inside.locks ∙ c.self.invariant.1)
