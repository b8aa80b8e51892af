use Rattle.std.proofs.Common.{ap, ◌∙◌}
use Rattle.sd_types.specs.declared.numbers.HomeId.TheVariants.{RealTime}
use Rattle.sd_homes.specs.Families.{home_id, shut}
use Rattle.sd_hand.proofs.GuideLemmas.{shut_keeps, slot_changed, slot_lost}
use Rattle.sd_hand.proofs.OrderLemmas.{slots_changed}
use Rattle.sd_hand.proofs.hand.Hand.close.Goals as goal

pub invariant_of-self : goal.invariant_of-self
invariant_of-self c =
    slots_changed c.self.inside.slots.items c.in-Some.i c.in-Some-index_mut.home c.close.new.self c.index_mut.result.now c.self.invariant c.index_mut.ensures.value c.in-Some-index_mut.is
    (ap home_id c.close.ensures.shut ∙ shut_keeps c.args.c c.in-Some-index_mut.home)

pub returns-in-Some-index_mut : goal.returns-in-Some-index_mut
returns-in-Some-index_mut c =
    record { shut = slot_changed c.args.self.now c.self.inside.slots.items (RealTime c.args.p) c.in-Some.i c.in-Some-index_mut.home c.close.new.self c.index_mut.result.now (shut c.args.c) c.self.view_is c.in-Some.ensures.slot c.index_mut.ensures.value c.in-Some-index_mut.is c.close.ensures.shut }

pub returns-in_default-index_mut : goal.returns-in_default-index_mut
returns-in_default-index_mut c =
    record { shut = slot_lost c.args.self.now c.self.inside.slots.items (RealTime c.args.p) c.in-Some.i c.index_mut.result.now (shut c.args.c) c.self.view_is c.in-Some.ensures.slot c.index_mut.ensures.value c.in_default-index_mut.is }
