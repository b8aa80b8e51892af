use Rattle.std.proofs.Common.{◌≡◌, ℕ, ◌<◌, false, None, get_or}
use Rattle.sd_hand.specs.Hands.{slot_has}
use Rattle.sd_hand.proofs.hand.where_in.Given as goal

abbrev pub invariant-loop-i : goal.invariant-loop-i
invariant-loop-i l = (j : ℕ) → j < l.i → slot_has l.t.0 (get_or l.slots j None) ≡ false
