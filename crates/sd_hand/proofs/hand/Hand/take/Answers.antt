use Rattle.std.proofs.Common.{◌≡◌, Some, sym, ap, ◌∙◌, subst}
use Rattle.std.specs.Prelude.{slice_set}
use Rattle.sd_boxq.specs.Order.{drop_id}
use Rattle.sd_homes.specs.Standing.{id_of}
use Rattle.sd_homes.specs.Families.{home_id, list_in, taken_from, taking}
use Rattle.sd_hand.specs.Hands.{edit, held}
use Rattle.sd_hand.proofs.GuideLemmas.{held_here, slot_changed}
use Rattle.sd_hand.proofs.OrderLemmas.{slots_changed}
use Rattle.sd_hand.proofs.HomeLemmas.{keeps-with_list}
use Rattle.sd_hand.proofs.hand.Hand.take.Goals as goal

pub invariant_of-self : goal.invariant_of-self
invariant_of-self c =
    slots_changed c.self.inside.slots.items c.in-Some.i c.in-Some-index_mut.home c.take.new.self c.index_mut.result.now c.self.invariant c.index_mut.ensures.value c.in-Some-index_mut.is
    (ap home_id c.take.ensures.rest ∙ keeps-with_list c.args.from (λ h. drop_id id_of c.args.t.0 (list_in h c.args.from)) c.in-Some-index_mut.home)

pub returns-in-Some-index_mut-clause-taken : goal.returns-in-Some-index_mut-clause-taken
returns-in-Some-index_mut-clause-taken c =
    c.take.ensures.taken
    ∙ ap (taken_from c.args.t.0 c.args.from) (sym (held_here c.args.self.now c.self.inside.slots.items c.home_at.result c.in-Some.i c.in-Some-index_mut.home c.index_mut.result.now c.self.view_is c.in-Some.ensures.slot c.index_mut.ensures.value c.in-Some-index_mut.is)
    ∙ ap (λ k. held k c.args.self.now.slots) c.home_at.ensures)

pub returns-in-Some-index_mut-clause-rest : goal.returns-in-Some-index_mut-clause-rest
returns-in-Some-index_mut-clause-rest c =
    subst (λ k. slice_set c.self.inside.slots.items c.in-Some.i (Some c.take.new.self) ≡ edit k (taking c.args.t.0 c.args.from) c.args.self.now.slots) c.home_at.ensures
    (slot_changed c.args.self.now c.self.inside.slots.items c.home_at.result c.in-Some.i c.in-Some-index_mut.home c.take.new.self c.index_mut.result.now (taking c.args.t.0 c.args.from) c.self.view_is c.in-Some.ensures.slot
    c.index_mut.ensures.value c.in-Some-index_mut.is c.take.ensures.rest)
