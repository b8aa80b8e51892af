use Rattle.std.specs.Prelude.{map, option_copied}
use Rattle.sd_state.specs.declared.states.State.{State}
use Rattle.sd_world.specs.Told.{AreTold, IsToldBy}
use Rattle.sd_world.proofs.threads.all_ended.Given as goal

abbrev pub invariant-loop-c : goal.invariant-loop-c
invariant-loop-c l = (s : State) → IsToldBy l.hand.slots s → AreTold s (map option_copied l.told.items)
