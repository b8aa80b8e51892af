use Rattle.sd_hand.proofs.CountLemmas.{gives_out, slots_without}
use Rattle.sd_hand.proofs.OrderLemmas.{slots_of, slots_unordered}
use Rattle.sd_hand.proofs.hand.Hand.release.Goals as goal

pub invariant_of-self : goal.invariant_of-self
invariant_of-self c =
    slots_unordered c.none-self-inside.result c.self.inside.slots.items c.in-Some.i c.take.new.self c.take.ensures.after c.self.invariant c.none-self-inside.ensures

pub returns-in-Some-clause-some : goal.returns-in-Some-clause-some
returns-in-Some-clause-some c =
    (gives_out c.args.self.now c.self.inside.slots.items c.args.k c.in-Some.i c.take.result c.index_mut.result.now c.take.new.self c.self.view_is (slots_of c.self.inside.slots.items c.self.invariant) c.in-Some.ensures.slot c.take.ensures.value
    c.index_mut.ensures.value c.take.ensures.after).some

pub returns-in-Some-clause-count : goal.returns-in-Some-clause-count
returns-in-Some-clause-count c =
    (gives_out c.args.self.now c.self.inside.slots.items c.args.k c.in-Some.i c.take.result c.index_mut.result.now c.take.new.self c.self.view_is (slots_of c.self.inside.slots.items c.self.invariant) c.in-Some.ensures.slot c.take.ensures.value
    c.index_mut.ensures.value c.take.ensures.after).count

pub returns-in-Some-clause-apart : goal.returns-in-Some-clause-apart
returns-in-Some-clause-apart c = (slots_without c.self.inside.slots.items c.in-Some.i c.take.new.self c.take.ensures.after (slots_of c.self.inside.slots.items c.self.invariant)).apart
