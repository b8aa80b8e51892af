-- What an event does to the waits of a thread that was woken.
-- Source: this project's own.
use Rattle.std.specs.Prelude.{◌==◌, if◌then◌else◌}
use Rattle.sd_types.specs.declared.numbers.ThreadId.{ThreadId}
use Rattle.sd_types.specs.declared.events.Event.{Event}
use Rattle.sd_stretches.specs.Changes.{woken_by, is_that_thread}
use Rattle.sd_longest.specs.declared.edges.Effect.{Effect}
use Rattle.sd_longest.specs.declared.edges.Effect.TheVariants.{Opens, Ends, Passes}
use Rattle.sd_longest.specs.Waits.{run_by}

-- a wakeup of the thread opens a wait, its running ends each
abbrev pub effect_of : ThreadId → Event → Effect
effect_of t e = if is_that_thread t (run_by e) then Ends else (if is_that_thread t (woken_by e) then Opens else Passes)
