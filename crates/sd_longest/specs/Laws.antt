-- That the ticks of waits are those of a report.
-- Source: this project's own.
use Rattle.std.specs.Prelude.{◌≡◌, ◌⊎◌, List, [], ◌∷◌, ◌++◌, Some}
use Rattle.sd_types.specs.declared.numbers.ThreadId.{ThreadId}
use Rattle.sd_types.specs.declared.events.Entry.{Entry}
use Rattle.sd_types.specs.declared.works.Work.{Work}
use Rattle.sd_machine.specs.Runs.{IsRun}
use Rattle.sd_stretches.specs.Changes.{woken_by}
use Rattle.sd_longest.specs.Waits.{run_by, tick_after}

-- in a run the count of the processor of an entry that wakes a thread or makes one run is the same before it and after it
abbrev pub TicksAreReported : Type 0
TicksAreReported =
    (w : Work) (es : List Entry) (e : Entry) (t : ThreadId) → IsRun w (es ++ e ∷ []) → (woken_by e.event ≡ Some t) ⊎ (run_by e.event ≡ Some t)
    → tick_after w (es ++ e ∷ []) e ≡ tick_after w es e
