use Rattle.std.proofs.Common.{◌≡◌, length, take}
use Rattle.sd_state.specs.declared.states.State.{State}
use Rattle.sd_world.specs.Told.{IsToldBy}
use Rattle.sd_world.proofs.parts.counts_of.Given as goal

-- so many counts of any such state
abbrev pub invariant-loop-k : goal.invariant-loop-k
invariant-loop-k l = (s : State) → IsToldBy l.hand.slots s → length s.counts ≡ l.many → l.counts.items ≡ take l.k s.counts
