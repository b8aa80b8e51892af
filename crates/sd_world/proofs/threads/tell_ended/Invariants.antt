use Rattle.std.specs.Prelude.{map, option_copied}
use Rattle.sd_state.specs.declared.states.State.{State}
use Rattle.sd_world.specs.Told.{AreTold, IsToldBy}
use Rattle.sd_world.proofs.EndedLemmas.{HaveEnded}
use Rattle.sd_world.proofs.threads.tell_ended.Given as goal

-- what is told so far is so, and those who are left have ended
abbrev pub invariant-loop-thread : goal.invariant-loop-thread
invariant-loop-thread l = (s : State) → IsToldBy l.hand.slots s → AreTold s (map option_copied l.initial.told.items) → AreTold s (map option_copied l.told.items) × HaveEnded s l.thread-iterator
