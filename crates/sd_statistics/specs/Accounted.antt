-- What the accounts of a run and its pictures and reports say of the ticks of a thread.
-- Source: Solaris Internals (a clock tick is charged to the thread that runs); the law is this project's own.
use Rattle.std.specs.Prelude.{◌≡◌, ℕ, ◌+◌, ◌<◌, List, length}
use Rattle.sd_types.specs.declared.events.Entry.{Entry}
use Rattle.sd_types.specs.declared.works.Work.{Work}
use Rattle.sd_state.specs.Accounts.{thread_ticks}
use Rattle.sd_state.specs.Opening.{opening}
use Rattle.sd_machine.specs.Runs.{final, IsComplete, IsRun}
use Rattle.sd_stretches.specs.declared.histories.History.{History}
use Rattle.sd_stretches.specs.declared.spin_pieces.Track.TheVariants as track
use Rattle.sd_stretches.specs.Histories.{IsHistory}
use Rattle.sd_stretches.specs.SpinPieces.{pieces}
use Rattle.sd_statistics.specs.declared.activities.Activity.TheVariants.{Running, Spinning}
use Rattle.sd_statistics.specs.Laws.{ticks_in}

-- in a complete run the ticks over which a thread runs, and those that it spins, are together its ticks in the accounts
abbrev pub RunningTicksAreAccounted : Type 0
RunningTicksAreAccounted =
    (w : Work) (es : List Entry) (h : History) (t : ℕ) → IsRun w es → IsComplete w (final w (opening w) es) → IsHistory w es h → t < length w.threads
    → ticks_in Running (pieces (track.Thread t) h w.limit) + ticks_in Spinning (pieces (track.Thread t) h w.limit) ≡ thread_ticks t es
