use Rattle.sd_hand.specs.declared.ordering.Kind.TheVariants.{Sleepers}
use Rattle.sd_hand.proofs.OrderLemmas.{lies}
use Rattle.sd_hand.proofs.hand.Hand.slot_of_sleepers.Goals as goal

pub returns-in-Some-clause-inside : goal.returns-in-Some-clause-inside
returns-in-Some-clause-inside c =
    (lies c.args.self.now c.self.inside.slots.items Sleepers c.self.inside.order.first_sleepers c.self.inside.order.chains c.args.n c.in-Some.i c.self.view_is c.self.invariant.apart c.self.invariant.order.sleepers c.in-Some.ensures.1 c.in-Some.ensures.0).inside

pub returns-in-Some-clause-slot : goal.returns-in-Some-clause-slot
returns-in-Some-clause-slot c =
    (lies c.args.self.now c.self.inside.slots.items Sleepers c.self.inside.order.first_sleepers c.self.inside.order.chains c.args.n c.in-Some.i c.self.view_is c.self.invariant.apart c.self.invariant.order.sleepers c.in-Some.ensures.1 c.in-Some.ensures.0).slot
