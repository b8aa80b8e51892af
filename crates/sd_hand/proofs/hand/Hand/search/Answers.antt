use Rattle.std.proofs.Common.{subst}
use Rattle.sd_hand.specs.Hands.{AreApart, HandSlots}
use Rattle.sd_hand.proofs.MoveLemmas.{stands_found}
use Rattle.sd_hand.proofs.hand.Hand.search.Goals as goal

pub returns-in-None : goal.returns-in-None
returns-in-None c =
    absurd (stands_found c.args.t.0 c.in-Ok.at c.args.self.now.slots (subst (λ (x : HandSlots). AreApart x.slots) c.self.view_is c.self.invariant.apart) c.in-Ok.ensures c.in-None.ensures)
