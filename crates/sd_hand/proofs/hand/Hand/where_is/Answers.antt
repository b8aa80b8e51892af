use Rattle.std.proofs.Common.{sym, ◌∙◌}
use Rattle.sd_hand.proofs.GuideLemmas.{stands_guessed}
use Rattle.sd_hand.proofs.hand.Hand.where_is.Goals as goal

pub returns-then-stands_at : goal.returns-then-stands_at
returns-then-stands_at c = stands_guessed c.args.t.0 c.in-Some.at.now c.args.self.now.slots (sym c.stands_at.ensures ∙ c.if-stands_at.true)
