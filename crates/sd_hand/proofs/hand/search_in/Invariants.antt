use Rattle.std.proofs.Common.{◌≡◌, ℕ, ◌<◌, false, None, get_or}
use Rattle.sd_hand.specs.Hands.{is_at}
use Rattle.sd_hand.proofs.hand.search_in.Given as goal

abbrev pub invariant-loop-i : goal.invariant-loop-i
invariant-loop-i l = (j : ℕ) → j < l.i → is_at l.k (get_or l.slots j None) ≡ false
