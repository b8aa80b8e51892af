use Rattle.std.proofs.Common.{arith}
use Rattle.sd_hand.proofs.SlotLemmas.{are_taken}
use Rattle.sd_hand.proofs.hand.free_in.Goals as goal

pub returns : goal.returns
returns c =
    let high = c.loop-i-test.false in
    are_taken c.args.slots.now (λ j h. c.loop-i.invariant j (omega arith))
