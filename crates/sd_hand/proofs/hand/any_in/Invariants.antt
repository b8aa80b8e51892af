use Rattle.std.proofs.Common.{◌≡◌, ℕ, ◌<◌, false, None, get_or, is_some}
use Rattle.sd_hand.proofs.hand.any_in.Given as goal

abbrev pub invariant-loop-i : goal.invariant-loop-i
invariant-loop-i l = (j : ℕ) → j < l.i → is_some (get_or l.slots j None) ≡ false
