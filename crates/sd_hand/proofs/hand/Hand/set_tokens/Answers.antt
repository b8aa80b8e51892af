use Rattle.std.proofs.Common.{◌≡◌, Some, ap, ◌∙◌, subst}
use Rattle.std.specs.Prelude.{slice_set}
use Rattle.sd_homes.specs.Families.{counting, home_id}
use Rattle.sd_hand.proofs.PartLemmas.{counting_keeps}
use Rattle.sd_hand.specs.Hands.{edit}
use Rattle.sd_hand.proofs.GuideLemmas.{slot_changed, slot_lost}
use Rattle.sd_hand.proofs.OrderLemmas.{slots_changed}
use Rattle.sd_hand.proofs.hand.Hand.set_tokens.Goals as goal

pub invariant_of-self : goal.invariant_of-self
invariant_of-self c =
    slots_changed c.self.inside.slots.items c.in-Some.i c.in-Some-index_mut.home c.set_tokens.new.self c.index_mut.result.now c.self.invariant c.index_mut.ensures.value c.in-Some-index_mut.is
    (ap home_id c.set_tokens.ensures ∙ counting_keeps c.args.k.0 c.args.n c.in-Some-index_mut.home)

pub returns-in-Some-index_mut : goal.returns-in-Some-index_mut
returns-in-Some-index_mut c =
    subst (λ k. slice_set c.self.inside.slots.items c.in-Some.i (Some c.set_tokens.new.self) ≡ edit k (counting c.args.k.0 c.args.n) c.args.self.now.slots) c.home_of_chan.ensures
    (slot_changed c.args.self.now c.self.inside.slots.items c.home_of_chan.result c.in-Some.i c.in-Some-index_mut.home c.set_tokens.new.self c.index_mut.result.now (counting c.args.k.0 c.args.n) c.self.view_is c.in-Some.ensures.slot c.index_mut.ensures.value c.in-Some-index_mut.is c.set_tokens.ensures)

pub returns-in_default-index_mut : goal.returns-in_default-index_mut
returns-in_default-index_mut c =
    subst (λ k. slice_set c.self.inside.slots.items c.in-Some.i c.index_mut.result.now ≡ edit k (counting c.args.k.0 c.args.n) c.args.self.now.slots) c.home_of_chan.ensures
    (slot_lost c.args.self.now c.self.inside.slots.items c.home_of_chan.result c.in-Some.i c.index_mut.result.now (counting c.args.k.0 c.args.n) c.self.view_is c.in-Some.ensures.slot c.index_mut.ensures.value c.in_default-index_mut.is)
