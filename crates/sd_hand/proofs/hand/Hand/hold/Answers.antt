use Rattle.std.proofs.Common.{◌≡◌, ◌≤◌, Some, None, slice_get, refl, sym, ap, ◌∙◌, subst, inr}
use Rattle.std.proofs.lemmas.List.{length-set}
use Rattle.sd_homes.specs.Families.{home_id}
use Rattle.sd_hand.specs.Hands.{AreTaken, HandSlots, held}
use Rattle.sd_hand.proofs.CountLemmas.{full, held_more}
use Rattle.sd_hand.proofs.GuideLemmas.{holds_shown}
use Rattle.sd_hand.proofs.OrderLemmas.{order_filled, slots_of}
use Rattle.sd_hand.proofs.SlotLemmas.{holds_more}
use Rattle.sd_hand.proofs.hand.Hand.hold.Goals as goal

pub invariant_of-self : goal.invariant_of-self
invariant_of-self c =
    let hs = c.self.inside.slots.items in
    let free : slice_get hs c.in-Some-free_in.i ≡ Some None = ap (λ xs. slice_get xs c.in-Some-free_in.i) (sym c.deref.ensures.value) ∙ c.in-Some-free_in.ensures.1 in
    let none : held (home_id c.args.home) c.args.self.now.slots ≡ None = ap (λ k. held k c.args.self.now.slots) (sym c.id.ensures) ∙ c.in-None.ensures.slot.none in
    record {
      apart = (holds_more c.args.home hs c.in-Some-free_in.i free (ap (λ (x : HandSlots). held (home_id c.args.home) x.slots) c.self.view_is ∙ none)).apart c.self.invariant.apart;
      four = subst (λ n. 4 ≤ n) (sym (length-set hs c.in-Some-free_in.i (Some c.args.home))) c.self.invariant.four;
      order = order_filled c.self.inside.order hs c.in-Some-free_in.i c.args.home c.self.invariant.order free;
    }

pub returns-in-Some-free_in-clause-held : goal.returns-in-Some-free_in-clause-held
returns-in-Some-free_in-clause-held c =
    holds_shown c.args.self.now c.self.inside.slots.items c.args.home c.in-Some-free_in.i c.self.view_is (ap (λ xs. slice_get xs c.in-Some-free_in.i) (sym c.deref.ensures.value) ∙ c.in-Some-free_in.ensures.1)
    (ap (λ k. held k c.args.self.now.slots) (sym c.id.ensures) ∙ c.in-None.ensures.slot.none)

pub returns-in-Some-free_in-clause-count : goal.returns-in-Some-free_in-clause-count
returns-in-Some-free_in-clause-count c =
    held_more c.args.self.now c.self.inside.slots.items c.args.home c.in-Some-free_in.i c.self.view_is (ap (λ xs. slice_get xs c.in-Some-free_in.i) (sym c.deref.ensures.value) ∙ c.in-Some-free_in.ensures.1)

pub returns-in-None-free_in-clause-refused : goal.returns-in-None-free_in-clause-refused
returns-in-None-free_in-clause-refused c =
    (refl, refl, inr (full c.args.self.now c.self.inside.slots.items c.self.view_is (slots_of c.self.inside.slots.items c.self.invariant) (subst AreTaken c.deref.ensures.value c.in-None-free_in.ensures)))
