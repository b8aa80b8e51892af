use Rattle.std.proofs.Common.{◌≡◌, Some, sym, ap, ◌∙◌, subst}
use Rattle.std.specs.Prelude.{slice_set}
use Rattle.sd_homes.specs.Families.{home_id, locking}
use Rattle.sd_hand.proofs.PartLemmas.{locking_keeps}
use Rattle.sd_hand.specs.Hands.{edit}
use Rattle.sd_hand.proofs.GuideLemmas.{slot_changed}
use Rattle.sd_hand.proofs.OrderLemmas.{number_here, slots_changed}
use Rattle.sd_hand.proofs.hand.Hand.set_lock.Goals as goal

pub invariant_of-self : goal.invariant_of-self
invariant_of-self c =
    slots_changed c.self.inside.slots.items c.in-Some.i c.in-Some-index_mut.home c.set_lock.new.self c.index_mut.result.now c.self.invariant c.index_mut.ensures.value c.in-Some-index_mut.is
    (ap home_id c.set_lock.ensures ∙ locking_keeps c.args.l.0 c.args.x c.in-Some-index_mut.home)

pub returns-in-Some-index_mut : goal.returns-in-Some-index_mut
returns-in-Some-index_mut c =
    subst (λ k. slice_set c.self.inside.slots.items c.in-Some.i (Some c.set_lock.new.self) ≡ edit k (locking c.args.l.0 c.args.x) c.args.self.now.slots) c.home_of_lock.ensures
    (slot_changed c.args.self.now c.self.inside.slots.items c.home_of_lock.result c.in-Some.i c.in-Some-index_mut.home c.set_lock.new.self c.index_mut.result.now (locking c.args.l.0 c.args.x) c.self.view_is c.in-Some.ensures.slot c.index_mut.ensures.value c.in-Some-index_mut.is c.set_lock.ensures)

pub known-requires-in-Some-index_mut : goal.known-requires-in-Some-index_mut
known-requires-in-Some-index_mut c =
    let number = number_here c.args.self.now c.self.inside.slots.items c.home_of_lock.result c.in-Some.i c.in-Some-index_mut.home c.index_mut.result.now c.self.view_is c.in-Some.ensures.slot c.index_mut.ensures.value c.in-Some-index_mut.is
    ∙ (c.home_of_lock.ensures ∙ sym c.home_of_lock-in-Some-index_mut.ensures) in
    c.is_of_kind.ensures number
