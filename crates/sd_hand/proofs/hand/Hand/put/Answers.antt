use Rattle.std.proofs.Common.{◌≡◌, Some, refl, ap, ◌∙◌, subst}
use Rattle.std.specs.Prelude.{slice_set}
use Rattle.sd_homes.specs.Standing.{insert_at}
use Rattle.sd_homes.specs.Families.{IsWhole, home_id, list_in, putting}
use Rattle.sd_hand.specs.Hands.{HandSlots, edit, held}
use Rattle.sd_hand.proofs.GuideLemmas.{same_held, slot_changed}
use Rattle.sd_hand.proofs.OrderLemmas.{slots_changed}
use Rattle.sd_hand.proofs.HomeLemmas.{keeps-with_list}
use Rattle.sd_hand.proofs.hand.Hand.put.Goals as goal

pub invariant_of-self-in-Some-index_mut : goal.invariant_of-self-in-Some-index_mut
invariant_of-self-in-Some-index_mut c =
    slots_changed c.self.inside.slots.items c.in-Some.i c.in-Some-index_mut.home c.put.new.self c.index_mut.result.now c.self.invariant c.index_mut.ensures.value c.in-Some-index_mut.is
    (ap home_id c.put.ensures ∙ keeps-with_list c.args.at (λ h. insert_at c.args.at c.args.t (list_in h c.args.at)) c.in-Some-index_mut.home)

pub returns-in-Some-index_mut-clause-rest : goal.returns-in-Some-index_mut-clause-rest
returns-in-Some-index_mut-clause-rest c =
    subst (λ k. slice_set c.self.inside.slots.items c.in-Some.i (Some c.put.new.self) ≡ edit k (putting c.args.t c.args.at) c.args.self.now.slots) c.home_at.ensures
    (slot_changed (record { slots = c.self.inside.slots.items }) c.self.inside.slots.items c.home_at.result c.in-Some.i c.in-Some-index_mut.home c.put.new.self c.index_mut.result.now (putting c.args.t c.args.at) refl c.in-Some.ensures.slot
    c.index_mut.ensures.value c.in-Some-index_mut.is c.put.ensures ∙ ap (λ (x : HandSlots). edit c.home_at.result (putting c.args.t c.args.at) x.slots) c.self.view_is)

pub returns-in-Some-index_mut-clause-whole : goal.returns-in-Some-index_mut-clause-whole
returns-in-Some-index_mut-clause-whole c h e =
    subst IsWhole
    (same_held (record { slots = c.self.inside.slots.items }) c.self.inside.slots.items c.home_at.result c.in-Some.i c.in-Some-index_mut.home h c.index_mut.result.now refl c.in-Some.ensures.slot c.index_mut.ensures.value c.in-Some-index_mut.is
    (ap (λ (x : HandSlots). held c.home_at.result x.slots) c.self.view_is ∙ (ap (λ k. held k c.args.self.now.slots) c.home_at.ensures ∙ e)))
    c.is_whole.ensures
