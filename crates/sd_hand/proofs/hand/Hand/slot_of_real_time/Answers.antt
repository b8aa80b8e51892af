use Rattle.sd_hand.specs.declared.ordering.Kind.TheVariants.{RealTime}
use Rattle.sd_hand.proofs.OrderLemmas.{lies}
use Rattle.sd_hand.proofs.hand.Hand.slot_of_real_time.Goals as goal

pub returns-in-Some-clause-inside : goal.returns-in-Some-clause-inside
returns-in-Some-clause-inside c =
    (lies c.args.self.now c.self.inside.slots.items RealTime c.self.inside.order.first_set c.self.inside.order.sets c.args.p.0 c.in-Some.i c.self.view_is c.self.invariant.apart c.self.invariant.order.sets c.in-Some.ensures.1 c.in-Some.ensures.0).inside

pub returns-in-Some-clause-slot : goal.returns-in-Some-clause-slot
returns-in-Some-clause-slot c =
    (lies c.args.self.now c.self.inside.slots.items RealTime c.self.inside.order.first_set c.self.inside.order.sets c.args.p.0 c.in-Some.i c.self.view_is c.self.invariant.apart c.self.invariant.order.sets c.in-Some.ensures.1 c.in-Some.ensures.0).slot
