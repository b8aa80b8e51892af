use Rattle.std.proofs.Common.{refl}
use Rattle.sd_hand.proofs.GuideLemmas.{held_here}
use Rattle.sd_hand.proofs.OrderLemmas.{number_here}
use Rattle.sd_hand.proofs.hand.Hand.home.Goals as goal

pub returns-in-Some-index : goal.returns-in-Some-index
returns-in-Some-index c =
    (c.in-Some-index.home, held_here c.args.self.now c.self.inside.slots.items c.args.k c.in-Some.i c.in-Some-index.home c.index-in-Some.result.now c.self.view_is c.in-Some.ensures.slot c.index-in-Some.ensures c.in-Some-index.is, refl)

pub known-requires-in-Some-index : goal.known-requires-in-Some-index
known-requires-in-Some-index c =
    let number = number_here c.args.self.now c.self.inside.slots.items c.args.k c.in-Some.i c.in-Some-index.home c.index-in-Some.result.now c.self.view_is c.in-Some.ensures.slot c.index-in-Some.ensures c.in-Some-index.is in
    c.is_of_kind.ensures number
