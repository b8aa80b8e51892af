-- What a dropped ageing leaves.
use Rattle.std.proofs.Common.{◌≡◌, ℕ, refl}
use Rattle.sd_types.specs.declared.events.Event.{Event}
use Rattle.sd_state.specs.declared.states.ThreadState.{ThreadState}
use Rattle.sd_state.specs.declared.states.State.{State}
use Rattle.sd_machine.specs.Changes.{set_duty}
use Rattle.sd_machine.specs.Events.{drop_ageing}
use Rattle.sd_frames.proofs.Words.{Same, set_duty_same}

pub same_threads : (s : State) (c : ℕ) (e : Event) → (drop_ageing s c e).threads ≡ s.threads
unfolding drop_ageing set_duty
same_threads s c e = refl

pub dropped_same : {X : Type 0} (part : ThreadState → X) (s : State) (c : ℕ) (e : Event) → Same part s (drop_ageing s c e)
unfolding drop_ageing
dropped_same part s c e = set_duty_same part s c _
