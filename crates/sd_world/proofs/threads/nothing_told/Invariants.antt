use Rattle.std.specs.Prelude.{map, option_copied}
use Rattle.sd_state.specs.declared.states.State.{State}
use Rattle.sd_world.specs.Told.{AreTold}
use Rattle.sd_world.proofs.threads.nothing_told.Given as goal

abbrev pub invariant-loop : goal.invariant-loop
invariant-loop l = (s : State) → AreTold s (map option_copied l.told.items)
