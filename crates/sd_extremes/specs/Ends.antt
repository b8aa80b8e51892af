-- When a thread ends, over all orders in which the processors of a workload can act. The tick of an entry is the count of its
-- processor in the state before it, as a story tells it; a thread ends by the entry `done`.
-- Source: best and worst case of a schedule (Liu, "Real-Time Systems"); the measure in ticks is this project's own.
use Rattle.std.specs.Prelude.{◌≡◌, ℕ, ◌<◌, ◌≤◌, List, ◌∷◌, ◌++◌, length, ⊤}
use Rattle.sd_types.specs.declared.numbers.ThreadId.{ThreadId}
use Rattle.sd_types.specs.declared.events.Entry.{Entry}
use Rattle.sd_types.specs.declared.events.Event.TheVariants.{Done}
use Rattle.sd_types.specs.declared.works.Work.{Work}
use Rattle.sd_state.specs.Opening.{opening}
use Rattle.sd_state.specs.States.{cpu_of}
use Rattle.sd_machine.specs.Runs.{final}
use Rattle.sd_search.specs.declared.graph.Graph.{Graph}
use Rattle.sd_search.specs.Graphs.{packed}
use Rattle.sd_extremes.specs.declared.ends.Ending.{Ending}
use Rattle.sd_extremes.specs.declared.ends.When.{When}
use Rattle.sd_extremes.specs.declared.ends.When.TheVariants.{Between, Never, More}
use Rattle.sd_extremes.specs.WholeRuns.{IsFreshRun, IsWholeRun}

-- one of the entries ends thread t, at tick k
pub record EndsAt (w : Work) (t : ThreadId) (es : List Entry) (k : ℕ) : Type 0 where
  pub before : List Entry
  pub entry : Entry
  pub rest : List Entry
  pub entries : es ≡ before ++ entry ∷ rest
  pub done : entry.event ≡ Done t
  pub tick : (cpu_of (final w (opening w) before) entry.cpu.0).count ≡ k

-- a run that goes to its end, in which thread t ends at the tick that is told
pub record IsEnding (w : Work) (t : ThreadId) (e : Ending) : Type 0 where
  pub run : IsWholeRun w e.entries.items
  pub ends : EndsAt w t e.entries.items e.tick

-- in these two runs thread t ends, and in no other does it end at a tick before that of the first or after that of the last:
-- neither in one that goes to its end nor in one that is broken off
pub record AreExtremes (w : Work) (t : ThreadId) (earliest latest : Ending) : Type 0 where
  pub first : IsEnding w t earliest
  pub last : IsEnding w t latest
  pub between : (es : List Entry) (k : ℕ) → IsFreshRun w es → EndsAt w t es k → (earliest.tick ≤ k) × (k ≤ latest.tick)

-- the thread ends in no run; or where not all was searched nothing is said
abbrev pub IsWhen : Work → ThreadId → When → Type 0
IsWhen w t (Between earliest latest) = AreExtremes w t earliest latest
IsWhen w t Never = (es : List Entry) (k : ℕ) → IsFreshRun w es → EndsAt w t es k → ⊥
IsWhen w t More = ⊤

-- nothing is said only where not all was searched
abbrev pub IsOpenWhen : Graph → When → Type 0
IsOpenWhen g More = g.done < length (packed g)
IsOpenWhen g _ = ⊤
