-- The rows of threads.
-- Source: Solaris Internals (thread states, priority inheritance); the rows are this project's own.
use Rattle.std.specs.Prelude.{ℕ, ◌-◌, List, ◌++◌, length, sum_by, Some, None}
use Rattle.std.specs.List.{flat_map, range_with_len}
use Rattle.sd_types.specs.declared.works.Work.{Work}
use Rattle.sd_stretches.specs.declared.changes.Wakeup.{Wakeup}
use Rattle.sd_stretches.specs.declared.histories.History.{History}
use Rattle.sd_stretches.specs.declared.rows.Level.{Level}
use Rattle.sd_stretches.specs.declared.rows.Stretch.{Stretch}
use Rattle.sd_stretches.specs.declared.spin_pieces.Track.TheVariants as track
use Rattle.sd_stretches.specs.Rows.{levels, stretches}
use Rattle.sd_stretches.specs.SpinPieces.{pieces}
use Rattle.sd_statistics.specs.declared.activities.Activity.{Activity}
use Rattle.sd_statistics.specs.declared.activities.Activity.TheVariants.{Running, Spinning, Runnable, Waiting, Asleep, Napping, Ended, WaitingFor}
use Rattle.sd_statistics.specs.declared.rows.Measure.TheVariants.{Does, Twice, WakeupToRun, Inherits}
use Rattle.sd_statistics.specs.declared.rows.Row.{Row}
use Rattle.sd_statistics.specs.declared.rows.Subject.TheVariants as subject
use Rattle.sd_statistics.specs.Activities.{spans_of}
use Rattle.sd_statistics.specs.Delays.{delays_of}
use Rattle.sd_statistics.specs.Inherited.{greatest_inherited, inherited_ticks}
use Rattle.sd_statistics.specs.Rows.{all_of, row_if, tick_figures}
use Rattle.sd_statistics.specs.Spans.{at_most_u64, summary_of}

-- the row of an activity of thread t, from the pieces of its stretches
abbrev pub activity_row : ℕ → List Stretch → Activity → List Row
activity_row t own a = row_if (record { subject = subject.Thread t; measure = Does a; figures = all_of (summary_of (spans_of a own)) })

unfoldable pub activity_rows : ℕ → List Stretch → List Row
activity_rows t own =
    activity_row t own Running ++ activity_row t own Spinning ++ activity_row t own Runnable ++ activity_row t own Waiting
    ++ activity_row t own Asleep ++ activity_row t own Napping ++ activity_row t own Ended

-- its waits by lock
unfoldable pub lock_rows : Work → ℕ → List Stretch → List Row
lock_rows w t own = flat_map (λ l. activity_row t own (WaitingFor (record { 0 = l }))) (range_with_len 0 (length w.locks))

-- By how many ticks the processor that ended a stretch was behind the one that began it. So many ticks lie in the stretch before
-- it and again behind it.
abbrev pub ticks_behind : Stretch → ℕ
ticks_behind x = x.from - x.to

abbrev pub twice_row : ℕ → List Stretch → List Row
twice_row t own = row_if (record { subject = subject.Thread t; measure = Twice; figures = tick_figures (at_most_u64 (sum_by ticks_behind own)) })

unfoldable pub doing_rows : Work → ℕ → List Stretch → List Row
doing_rows w t own = activity_rows t own ++ lock_rows w t own ++ twice_row t own

abbrev pub delay_row : ℕ → List Stretch → List Wakeup → List Row
delay_row t own wakeups = row_if (record { subject = subject.Thread t; measure = WakeupToRun; figures = all_of (summary_of (delays_of t own wakeups)) })

abbrev pub inherited_row : ℕ → List Level → List Row
inherited_row t own =
    row_if (record {
      subject = subject.Thread t;
      measure = Inherits;
      figures = record { number = None; ticks = Some (at_most_u64 (sum_by inherited_ticks own)); longest = None; priority = Some (greatest_inherited own) };
    })

unfoldable pub other_rows : Work → History → ℕ → List Row
other_rows w h t = delay_row t (stretches t h.onsets.items h.entries w.limit) h.wakeups.items ++ inherited_row t (levels t h.ranks.items w.limit)

unfoldable pub thread_part : Work → History → ℕ → List Row
thread_part w h t = doing_rows w t (pieces (track.Thread t) h w.limit) ++ other_rows w h t

-- the rows of all threads
unfoldable pub thread_rows : Work → History → List Row
thread_rows w h = flat_map (thread_part w h) (range_with_len 0 (length w.threads))
