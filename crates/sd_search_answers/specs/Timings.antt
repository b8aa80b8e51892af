-- When a thread ends over every order in which the processors of a workload can act, as it is told: at which tick at the earliest
-- and at the latest, and whether it does in every run that goes to its end.
-- Source: best and worst case of a schedule (Liu, "Real-Time Systems"); the measure in ticks is this project's own.
use Rattle.std.specs.Prelude.{◌≡◌, ℕ, ◌<◌, ◌≤◌, Bool, true, false, List, length, Option, Some, None, ⊤}
use Rattle.sd_types.specs.declared.numbers.ThreadId.{ThreadId}
use Rattle.sd_types.specs.declared.events.Entry.{Entry}
use Rattle.sd_types.specs.declared.works.Work.{Work}
use Rattle.sd_types.specs.Limits.{most_entries}
use Rattle.sd_state.specs.Opening.{opening}
use Rattle.sd_state.specs.States.{thread_of}
use Rattle.sd_state.specs.Texts.{thread_name}
use Rattle.sd_machine.specs.Runs.{final}
use Rattle.sd_machine.specs.Threads.{has_ended}
use Rattle.sd_search.specs.declared.graph.Graph.{Graph}
use Rattle.sd_search.specs.Graphs.{packed}
use Rattle.sd_extremes.specs.Ends.{AreExtremes, EndsAt}
use Rattle.sd_extremes.specs.Misses.{IsMiss}
use Rattle.sd_extremes.specs.WholeRuns.{IsFreshRun, IsWholeRun}
use Rattle.sd_search_answers.specs.declared.timings.Timing.{Timing}
use Rattle.sd_search_answers.specs.declared.timings.Timing.TheVariants.{Between, Never, More}

-- ---- the thread of a name

pub record IsThread (w : Work) (name : List ℕ) (t : ThreadId) : Type 0 where
  pub inside : t.0 < length w.threads
  pub named : thread_name w t.0 ≡ name

-- no thread of the workload has the name
abbrev pub HasNoThread : Work → List ℕ → Type 0
HasNoThread w name = (t : ℕ) → t < length w.threads → thread_name w t ≡ name → ⊥

abbrev pub IsNamed : Work → List ℕ → Option ThreadId → Type 0
IsNamed w name (Some t) = IsThread w name t
IsNamed w name None = HasNoThread w name

-- ---- when it ends

-- at the end of every run that goes to its end the thread has ended; or there is such a run at whose end it is left
abbrev pub IsInEvery : Work → ThreadId → Bool → Type 0
IsInEvery w t true = (es : List Entry) → IsWholeRun w es → has_ended (thread_of (final w (opening w) es) t.0).place ≡ true
IsInEvery w t false = (es : List Entry) × IsMiss w t es

-- the thread ends in no run, neither in one that goes to its end nor in one that is broken off
abbrev pub NeverEnds : Work → ThreadId → Type 0
NeverEnds w t = (es : List Entry) (k : ℕ) → IsFreshRun w es → EndsAt w t es k → ⊥

-- at these ticks at the earliest and at the latest, in these runs; or in no run; or not all was searched
abbrev pub IsTiming : Work → ThreadId → Graph → Timing → Type 0
IsTiming w t g (Between earliest latest in_every) = AreExtremes w t earliest latest × IsInEvery w t in_every
IsTiming w t g Never = NeverEnds w t
IsTiming w t g More = g.done < length (packed g)

-- the runs that are shown have no more than 2^40 entries
abbrev pub AreShort : Timing → Type 0
AreShort (Between earliest latest in_every) = (length earliest.entries.items ≤ most_entries) × (length latest.entries.items ≤ most_entries)
AreShort _ = ⊤
