-- What is said of the slices of processors over the entries of a run.
-- Source: Solaris Internals (a thread leaves its processor by its own swtch); Trace Event Format (slices of one track do not
-- overlap); the slices are this project's own.
use Rattle.std.specs.Prelude.{◌≡◌, ◌≢◌, ℕ, ◌<◌, ◌≤◌, List, [], ◌∷◌, length, Option, Some, ⊤}
use Rattle.sd_types.specs.declared.numbers.CpuId.{CpuId}
use Rattle.sd_types.specs.declared.events.Entry.{Entry}
use Rattle.sd_types.specs.declared.events.Event.{Event}
use Rattle.sd_types.specs.declared.events.Hints.{Hints}
use Rattle.sd_types.specs.declared.works.Work.{Work}
use Rattle.sd_state.specs.declared.states.State.{State}
use Rattle.sd_state.specs.States.{thread_of, is_running}
use Rattle.sd_machine.specs.Events.{next, after}
use Rattle.sd_machine.specs.Runs.{IsReached, IsRun}
use Rattle.sd_stretches.specs.declared.rows.Stretch.{Stretch}
use Rattle.sd_stretches.specs.Histories.{over, onsets_in}
use Rattle.sd_stretches.specs.Rows.{slices}

-- a step of processor c leaves each thread on another processor d there, and brings none to it
abbrev pub OthersKeepRunning : Type 0
OthersKeepRunning =
    (w : Work) (n : ℕ) (s : State) (c : CpuId) (hints : Option Hints) (e : Event) → IsReached w n s → next w s c hints ≡ Some e
    → (t d : ℕ) → d ≢ c.0 → is_running d (thread_of (after w s n c e) t).place ≡ is_running d (thread_of s t).place

-- each ends where it begins or later, and the next begins where it ends or later, by entries and by ticks
abbrev pub FollowInTime : List Stretch → Type 0
FollowInTime [] = ⊤
FollowInTime (x ∷ []) = x.from ≤ x.to
FollowInTime (x ∷ y ∷ ys) = (x.from ≤ x.to) × (x.last < y.first) × (x.to ≤ y.from) × FollowInTime (y ∷ ys)

-- the slices of a processor in a run, which ends with the last tick of the workload
abbrev pub SlicesFollowInTime : Type 0
SlicesFollowInTime = (w : Work) (es : List Entry) (c : ℕ) → IsRun w es → c < w.cpus → FollowInTime (slices c (over onsets_in w es) (length es) w.limit)
