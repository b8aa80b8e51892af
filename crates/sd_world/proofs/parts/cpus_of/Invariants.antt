use Rattle.std.proofs.Common.{◌≡◌, take}
use Rattle.sd_state.specs.declared.states.State.{State}
use Rattle.sd_world.specs.Told.{AreActorsOf, IsToldBy}
use Rattle.sd_world.proofs.parts.cpus_of.Given as goal

-- so many processors of any such state
abbrev pub invariant-loop-c : goal.invariant-loop-c
invariant-loop-c l = (s : State) → IsToldBy l.hand.slots s → AreActorsOf s l.actors → l.cpus.items ≡ take l.c s.cpus
