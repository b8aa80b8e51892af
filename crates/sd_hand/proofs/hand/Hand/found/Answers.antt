use Rattle.std.proofs.Common.{is_some, sym, ap}
use Rattle.sd_hand.proofs.GuideLemmas.{stands_guessed}
use Rattle.sd_hand.proofs.hand.Hand.found.Goals as goal

pub returns-in-Some-find_at : goal.returns-in-Some-find_at
returns-in-Some-find_at c =
    (stands_guessed c.args.t.0 c.in-Some.at.now c.args.self.now.slots (ap is_some (sym c.in-Some-find_at.ensures)), c.in-Some-find_at.ensures)
