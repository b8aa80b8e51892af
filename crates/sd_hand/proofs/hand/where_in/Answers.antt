use Rattle.std.proofs.Common.{None, sym, ◌∙◌, subst, arith}
use Rattle.sd_hand.specs.Hands.{StandsInSlot}
use Rattle.sd_hand.proofs.SlotLemmas.{has_nowhere, same_default, stands_at_slot}
use Rattle.sd_hand.proofs.hand.where_in.Goals as goal

pub returns : goal.returns
returns c =
    let high = c.loop-i-test.false in
    has_nowhere c.args.t.0 c.args.slots.now (λ j h. c.loop-i.invariant j (omega arith))

pub returns-in-Some : goal.returns-in-Some
returns-in-Some c =
    let inside = c.loop-i-test.true in
    let same = same_default c.args.slots.now c.loop-i.i None c.index-slots-i.result inside ∙ sym c.index-slots-i.is in
    stands_at_slot c.args.t.0 c.args.slots.now c.loop-i.i c.in-Some.at inside
    (subst (λ slot. StandsInSlot c.args.t.0 slot c.in-Some.at) (sym same) c.in-Some.ensures)
