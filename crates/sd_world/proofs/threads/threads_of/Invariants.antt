use Rattle.std.proofs.Common.{◌≡◌, length, take}
use Rattle.std.specs.Prelude.{map, option_copied}
use Rattle.sd_state.specs.declared.states.State.{State}
use Rattle.sd_world.specs.Told.{AreTold, IsToldBy}
use Rattle.sd_world.proofs.threads.threads_of.Given as goal

-- so many threads of any such state, and those who are told already
abbrev pub invariant-loop-t : goal.invariant-loop-t
invariant-loop-t l = (s : State) → IsToldBy l.hand.slots s → length s.threads ≡ l.many → (l.threads.items ≡ take l.t s.threads) × AreTold s (map option_copied l.ended.items)
