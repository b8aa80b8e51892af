use Rattle.std.proofs.Common.{◌==◌, ap, ◌∙◌}
use Rattle.sd_boxq.proofs.InOrder.{IsRanked-drop_first}
use Rattle.sd_turnstile.specs.Waiters.{higher, without_id}
use Rattle.sd_turnstile.proofs.ChainLemmas.{highest_both}
use Rattle.sd_turnstile.proofs.turnstile.Turnstile.greatest_but.Goals as goal

pub returns : goal.returns
returns g c =
    let rank = g.T.Ranked.rank in
    let key = g.T.Ranked.key in
    c.higher.ensures ∙ ap (λ o. higher o c.rank_of_first_but-2.result) c.rank_of_first_but.ensures ∙ ap (higher _) c.rank_of_first_but-2.ensures
    ∙ highest_both rank key (without_id g.T.Ranked.id c.args.id c.args.self.now)
    (IsRanked-drop_first rank key (λ x. g.T.Ranked.id x == c.args.id) c.args.self.now.writers c.requires.writers)
    (IsRanked-drop_first rank key (λ x. g.T.Ranked.id x == c.args.id) c.args.self.now.readers c.requires.readers)
