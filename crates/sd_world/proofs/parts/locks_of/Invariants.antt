use Rattle.std.proofs.Common.{◌≡◌, length, take}
use Rattle.sd_state.specs.declared.states.State.{State}
use Rattle.sd_world.specs.Told.{IsToldBy}
use Rattle.sd_world.proofs.parts.locks_of.Given as goal

-- so many locks of any such state
abbrev pub invariant-loop-l : goal.invariant-loop-l
invariant-loop-l l = (s : State) → IsToldBy l.hand.slots s → length s.locks ≡ l.many → l.locks.items ≡ take l.l s.locks
