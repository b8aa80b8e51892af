use Rattle.std.proofs.Common.{ap, ◌∙◌}
use Rattle.sd_types.specs.declared.numbers.HomeId.TheVariants.{Cpu}
use Rattle.sd_homes.specs.Families.{home_id, viewing}
use Rattle.sd_hand.proofs.PartLemmas.{viewing_keeps}
use Rattle.sd_hand.proofs.GuideLemmas.{slot_changed}
use Rattle.sd_hand.proofs.OrderLemmas.{number_here, slots_changed}
use Rattle.sd_hand.proofs.hand.Hand.set_view.Goals as goal

pub invariant_of-self : goal.invariant_of-self
invariant_of-self c =
    slots_changed c.self.inside.slots.items c.in-Some.i c.in-Some-index_mut.home c.set_view.new.self c.index_mut.result.now c.self.invariant c.index_mut.ensures.value c.in-Some-index_mut.is
    (ap home_id c.set_view.ensures ∙ viewing_keeps c.args.view c.in-Some-index_mut.home)

pub returns-in-Some-index_mut : goal.returns-in-Some-index_mut
returns-in-Some-index_mut c =
    slot_changed c.args.self.now c.self.inside.slots.items (Cpu c.args.c) c.in-Some.i c.in-Some-index_mut.home c.set_view.new.self c.index_mut.result.now (viewing c.args.view) c.self.view_is c.in-Some.ensures.slot c.index_mut.ensures.value c.in-Some-index_mut.is c.set_view.ensures

pub known-requires-in-Some-index_mut : goal.known-requires-in-Some-index_mut
known-requires-in-Some-index_mut c =
    let number = number_here c.args.self.now c.self.inside.slots.items (Cpu c.args.c) c.in-Some.i c.in-Some-index_mut.home c.index_mut.result.now c.self.view_is c.in-Some.ensures.slot c.index_mut.ensures.value c.in-Some-index_mut.is in
    c.is_of_kind.ensures number
