use Rattle.std.proofs.Common.{ap, ◌∙◌}
use Rattle.sd_turnstile.specs.Waiters.{higher}
use Rattle.sd_turnstile.proofs.ChainLemmas.{highest_both}
use Rattle.sd_turnstile.proofs.turnstile.Turnstile.greatest.Goals as goal

pub returns : goal.returns
returns g c =
    c.higher.ensures ∙ ap (λ o. higher o c.rank_of_first-2.result) c.rank_of_first.ensures ∙ ap (higher _) c.rank_of_first-2.ensures
    ∙ highest_both g.T.Ranked.rank g.T.Ranked.key c.args.self.now c.requires.writers c.requires.readers
