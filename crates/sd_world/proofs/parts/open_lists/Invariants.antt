use Rattle.std.proofs.Common.{◌≡◌, length, take}
use Rattle.sd_state.specs.declared.states.State.{State}
use Rattle.sd_world.specs.Told.{IsToldBy}
use Rattle.sd_world.proofs.parts.open_lists.Given as goal

-- the lists of so many sets of any such state
abbrev pub invariant-loop-p : goal.invariant-loop-p
invariant-loop-p l = (s : State) → IsToldBy l.hand.slots s → length s.open_cpus ≡ l.many → l.lists.items ≡ take l.p s.open_cpus
