-- The time from each wakeup of a thread to its running.
-- Source: Solaris Internals (dispatch latency); the measure in ticks is this project's own.
use Rattle.std.specs.Prelude.{ℕ, ◌-◌, Bool, not, ◌&&◌, ◌==◌, nat_lt, List, [], ◌∷◌, filter, Option, Some, None, if◌then◌else◌}
use Rattle.std.specs.List.{flat_map}
use Rattle.sd_stretches.specs.declared.changes.Wakeup.{Wakeup}
use Rattle.sd_stretches.specs.declared.rows.Stretch.{Stretch}
use Rattle.sd_stretches.specs.Rows.{next_of}
use Rattle.sd_stretches.specs.Sights.{does_run}
use Rattle.sd_statistics.specs.declared.spans.Span.{Span}
use Rattle.sd_statistics.specs.Spans.{state_after}

-- begins behind the entry, and the thread runs over it
abbrev pub runs_after : ℕ → Stretch → Bool
runs_after entry x = nat_lt entry x.first && does_run x.doing

abbrev pub first_run : ℕ → List Stretch → Option Stretch
first_run entry own = next_of (filter (runs_after entry) own)

-- from a wakeup up to the entry that makes the thread run, where there is one
abbrev pub delay_to : Wakeup → Option Stretch → List Span
delay_to w None = []
delay_to w (Some x) = record { thread = w.woken.0; first = state_after w.entry; last = x.first - 1; from = w.tick; to = x.from } ∷ []

abbrev pub delay_if : ℕ → List Stretch → Wakeup → List Span
delay_if t own w = if not (w.woken.0 == t) then [] else delay_to w (first_run w.entry own)

-- of each wakeup of thread t, which has these stretches
unfoldable pub delays_of : ℕ → List Stretch → List Wakeup → List Span
delays_of t own xs = flat_map (delay_if t own) xs
