use Rattle.std.proofs.Common.{◌≡◌, true, None, get_or, sym, ap, ◌∙◌, arith}
use Rattle.sd_hand.specs.Hands.{is_at}
use Rattle.sd_hand.proofs.SlotLemmas.{slot_at, no_slot, same_default}
use Rattle.sd_hand.proofs.hand.search_in.Goals as goal

pub returns-then-is_at-clause-slot : goal.returns-then-is_at-clause-slot
returns-then-is_at-clause-slot c =
    let low = c.loop-i-test.true in
    let here : is_at c.args.k (get_or c.args.slots.now c.loop-i.i None) ≡ true =
    ap (is_at c.args.k) (same_default c.args.slots.now c.loop-i.i None c.index-slots-i.result low ∙ sym c.index-slots-i.is) ∙ sym c.is_at.ensures ∙ c.if-is_at.true in
    slot_at c.args.k c.args.slots.now c.loop-i.i here c.loop-i.invariant

pub returns-clause-slot : goal.returns-clause-slot
returns-clause-slot c =
    let high = c.loop-i-test.false in
    no_slot c.args.k c.args.slots.now (λ j h. c.loop-i.invariant j (omega arith))
