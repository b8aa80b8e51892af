-- What a thread that goes from list to list makes of the states that are shown.
-- Source: this project's own; see Steps.
use Rattle.std.specs.Prelude.{◌≡◌, ℕ, ◌<◌, ◌≤◌, length}
use Rattle.sd_types.specs.declared.numbers.ThreadId.{ThreadId}
use Rattle.sd_state.specs.declared.states.State.{State}
use Rattle.sd_state.specs.declared.states.ThreadState.{ThreadState}
use Rattle.sd_state.specs.States.{thread_of, with_thread}
use Rattle.sd_homes.specs.declared.list_id.ListId.{ListId}
use Rattle.sd_homes.specs.Standing.{MayCome, list_of, look_of, record_of, without}
use Rattle.sd_hand.specs.declared.acting.Acting.{Acting}
use Rattle.sd_hand.specs.declared.steps.Step.{Step}
use Rattle.sd_hand.specs.Acting.{IsShown}
use Rattle.sd_hand.specs.Shown.{IsListThere}
use Rattle.sd_hand.specs.Steps.{stepped}

-- thread t is there, and stands as the step made it in every state that is shown now
pub record GoesFor (x y : Acting) (t : ThreadId) (step : Step) (to : ListId) : Type 0 where
  pub there : (n : ℕ) (s : State) → IsShown x n s → t.0 < length s.threads
  pub shown : (n m : ℕ) (s : State) (z : ThreadState) → IsShown x n s → n ≤ m
      → list_of z ≡ to → record_of t.0 z ≡ stepped step (record_of t.0 (thread_of s t.0)) → MayCome n m (without t.0 (look_of s)) to z → IsListThere to
      → IsShown y m (with_thread s t.0 z)
