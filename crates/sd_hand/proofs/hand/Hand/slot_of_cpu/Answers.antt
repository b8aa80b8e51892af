use Rattle.std.proofs.Common.{arith}
use Rattle.sd_hand.specs.declared.ordering.Kind.TheVariants.{Cpu}
use Rattle.sd_hand.proofs.OrderLemmas.{lies}
use Rattle.sd_hand.proofs.hand.Hand.slot_of_cpu.Goals as goal

pub returns-in-Some-clause-inside : goal.returns-in-Some-clause-inside
returns-in-Some-clause-inside c =
    (lies c.args.self.now c.self.inside.slots.items Cpu 0 c.self.inside.order.cpus c.args.c.0 c.in-Some.i c.self.view_is c.self.invariant.apart c.self.invariant.order.cpus c.in-Some.ensures.1 (omega (arith, c.in-Some.ensures.0))).inside

pub returns-in-Some-clause-slot : goal.returns-in-Some-clause-slot
returns-in-Some-clause-slot c =
    (lies c.args.self.now c.self.inside.slots.items Cpu 0 c.self.inside.order.cpus c.args.c.0 c.in-Some.i c.self.view_is c.self.invariant.apart c.self.invariant.order.cpus c.in-Some.ensures.1 (omega (arith, c.in-Some.ensures.0))).slot
