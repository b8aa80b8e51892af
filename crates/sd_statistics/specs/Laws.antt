-- What the numbers say of a run.
-- Source: this project's own.
use Rattle.std.specs.Prelude.{◌≡◌, ℕ, ◌+◌, ◌<◌, ◌≤◌, ◌&&◌, ◌==◌, List, [], length, sum_by, count_by, Some, None}
use Rattle.std.specs.List.{All, Contains}
use Rattle.sd_types.specs.declared.events.Entry.{Entry}
use Rattle.sd_types.specs.declared.works.Work.{Work}
use Rattle.sd_state.specs.Accounts.{cpu_ticks}
use Rattle.sd_stretches.specs.declared.histories.History.{History}
use Rattle.sd_stretches.specs.declared.rows.Stretch.{Stretch}
use Rattle.sd_stretches.specs.declared.spin_pieces.Track.TheVariants as track
use Rattle.sd_stretches.specs.Histories.{IsHistory}
use Rattle.sd_stretches.specs.SpinPieces.{pieces}
use Rattle.sd_statistics.specs.declared.activities.Activity.{Activity}
use Rattle.sd_statistics.specs.declared.activities.Activity.TheVariants.{Running, Spinning, Runnable, Waiting, Asleep, Napping, Ended}
use Rattle.sd_statistics.specs.declared.cpus.Deed.{Deed}
use Rattle.sd_statistics.specs.declared.cpus.Deed.TheVariants.{Runs, Spins, Idles}
use Rattle.sd_statistics.specs.declared.spans.Span.{Span}
use Rattle.sd_statistics.specs.Activities.{spans_of}
use Rattle.sd_statistics.specs.Cpus.{deeds, is_deed}
use Rattle.sd_statistics.specs.Spans.{longest, ticks_of}
use Rattle.sd_statistics.specs.Threads.{ticks_behind}

-- the ticks over which an activity lasts
abbrev pub ticks_in : Activity → List Stretch → ℕ
ticks_in a xs = sum_by ticks_of (spans_of a xs)

abbrev pub all_ticks : List Stretch → ℕ
all_ticks xs =
    ticks_in Running xs + ticks_in Spinning xs + ticks_in Runnable xs + ticks_in Waiting xs + ticks_in Asleep xs + ticks_in Napping xs + ticks_in Ended xs

-- the ticks of what a thread does, in a run that ends at this tick, are those of the run, with those that lie in two states
abbrev pub TicksAddUp : Type 0
TicksAddUp =
    (w : Work) (es : List Entry) (h : History) → IsHistory w es h → (t end : ℕ) → t < length w.threads
    → all_ticks (pieces (track.Thread t) h end) ≡ end + sum_by ticks_behind (pieces (track.Thread t) h end)

-- there is a longest unless there is none at all; it is one of them, and none is longer
pub record LongestIsLongest : Type 0 where
  pub none : (xs : List Span) → longest xs ≡ None → xs ≡ []
  pub there : (xs : List Span) (y : Span) → longest xs ≡ Some y → Contains xs y
  pub greatest : (xs : List Span) (y : Span) → longest xs ≡ Some y → All (λ x. ticks_of x ≤ ticks_of y) xs

-- what a processor does is counted over the entries of the run, and its ticks are those of the accounts
pub record DeedsAreCounts : Type 0 where
  pub counts : (w : Work) (es : List Entry) (h : History) → IsHistory w es h → (deed : Deed) (c : ℕ)
      → deeds deed c h.happenings.items ≡ count_by (λ e. (e.cpu.0 == c) && is_deed deed e.event) es
  pub ticks : (w : Work) (es : List Entry) (h : History) → IsHistory w es h → (c : ℕ)
      → deeds Runs c h.happenings.items + deeds Spins c h.happenings.items + deeds Idles c h.happenings.items ≡ cpu_ticks c es
