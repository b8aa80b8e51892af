-- Whether there are runs in which a thread does not end.
-- Source: this project's own.
use Rattle.std.specs.Prelude.{◌≡◌, ℕ, ◌<◌, false, List, length, Option, Some, None, ⊤}
use Rattle.sd_types.specs.declared.numbers.ThreadId.{ThreadId}
use Rattle.sd_types.specs.declared.events.Entry.{Entry}
use Rattle.sd_types.specs.declared.works.Work.{Work}
use Rattle.sd_state.specs.declared.states.State.{State}
use Rattle.sd_state.specs.Opening.{opening}
use Rattle.sd_state.specs.States.{thread_of}
use Rattle.sd_machine.specs.Runs.{IsComplete, final}
use Rattle.sd_machine.specs.Threads.{has_ended}
use Rattle.sd_search.specs.declared.graph.Graph.{Graph}
use Rattle.sd_search.specs.Graphs.{IsAt, packed}
use Rattle.sd_extremes.specs.declared.misses.Missed.{Missed}
use Rattle.sd_extremes.specs.declared.misses.Missed.TheVariants.{Run, Never, More}
use Rattle.sd_extremes.specs.WholeRuns.{IsWholeRun}

-- thread t has not ended
abbrev pub IsLeft : ThreadId → State → Type 0
IsLeft t s = has_ended (thread_of s t.0).place ≡ false

-- a run that goes to its end without it
pub record IsMiss (w : Work) (t : ThreadId) (es : List Entry) : Type 0 where
  pub run : IsWholeRun w es
  pub left : IsLeft t (final w (opening w) es)

-- such a run; or there is none; or where not all was searched nothing is said
abbrev pub IsMissed : Work → ThreadId → Missed → Type 0
IsMissed w t (Run es) = IsMiss w t es.items
IsMissed w t Never = (es : List Entry) → IsMiss w t es → ⊥
IsMissed w t More = ⊤

-- nothing is said only where not all was searched
abbrev pub IsMissedOpen : Graph → Missed → Type 0
IsMissedOpen g More = g.done < length (packed g)
IsMissedOpen g _ = ⊤

-- in state number i a run ends without the thread
pub record IsMissedAt (w : Work) (bs : List (List ℕ)) (t : ThreadId) (i : ℕ) : Type 0 where
  pub state : State
  pub at : IsAt bs i state
  pub complete : IsComplete w state
  pub left : IsLeft t state

-- it is so in this state; or in none
abbrev pub IsFound : Work → List (List ℕ) → ThreadId → Option ℕ → Type 0
IsFound w bs t (Some i) = IsMissedAt w bs t i
IsFound w bs t None = (i : ℕ) → IsMissedAt w bs t i → ⊥
