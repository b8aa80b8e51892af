-- The longest time from a wakeup of a thread to its running, over all orders in which the processors of a workload can act. The
-- entries that wake are those of `woken_by`, and a thread is made to run by `dispatch` and `steal`. The tick of an entry is the count
-- of its processor in the state before it. A report of a run (`delays_of` in `sd_statistics`) takes the counts in the states that the
-- two entries made. They are the same (`TicksAreReported` in `Laws.antt`), so both measure the same time.
-- Source: Solaris Internals (dispatch latency); the measure in ticks is this project's own.
use Rattle.std.specs.Prelude.{◌≡◌, ℕ, ◌-◌, ◌<◌, ◌≤◌, List, ◌∷◌, ◌++◌, length, Option, Some, None, ⊤}
use Rattle.std.specs.List.{All}
use Rattle.sd_types.specs.declared.numbers.ThreadId.{ThreadId}
use Rattle.sd_types.specs.declared.events.Entry.{Entry}
use Rattle.sd_types.specs.declared.events.Event.{Event}
use Rattle.sd_types.specs.declared.events.Event.TheVariants.{Dispatch, Steal}
use Rattle.sd_types.specs.declared.works.Work.{Work}
use Rattle.sd_state.specs.Opening.{opening}
use Rattle.sd_state.specs.States.{cpu_of}
use Rattle.sd_machine.specs.Runs.{final}
use Rattle.sd_stretches.specs.Changes.{woken_by}
use Rattle.sd_search.specs.declared.graph.Graph.{Graph}
use Rattle.sd_search.specs.Graphs.{packed}
use Rattle.sd_extremes.specs.WholeRuns.{IsFreshRun, IsWholeRun}
use Rattle.sd_longest.specs.declared.latency.Longest.{Longest}
use Rattle.sd_longest.specs.declared.latency.Longest.TheVariants.{Wait, Never, More}

-- the thread that an event makes run
abbrev pub run_by : Event → Option ThreadId
run_by (Dispatch t p) = Some t
run_by (Steal v t p) = Some t
run_by _ = None

abbrev pub DoesNotRun : ThreadId → Entry → Type 0
DoesNotRun t e = run_by e.event ≡ Some t → ⊥

-- the count of the processor of entry e, where these come before it
abbrev pub tick_after : Work → List Entry → Entry → ℕ
tick_after w es e = (cpu_of (final w (opening w) es) e.cpu.0).count

-- an entry wakes thread t, and the next that makes it run does so at so many ticks more; none where its processor is behind
pub record IsWait (w : Work) (t : ThreadId) (es : List Entry) (k : ℕ) : Type 0 where
  pub before : List Entry
  pub wakeup : Entry
  pub between : List Entry
  pub running : Entry
  pub rest : List Entry
  pub entries : es ≡ before ++ wakeup ∷ (between ++ running ∷ rest)
  pub wakes : woken_by wakeup.event ≡ Some t
  pub waits : All (DoesNotRun t) between
  pub runs : run_by running.event ≡ Some t
  pub ticks : tick_after w (before ++ wakeup ∷ between) running - tick_after w before wakeup ≡ k

-- a run that goes to its end, in which there is such a wait
pub record IsLongWait (w : Work) (t : ThreadId) (k : ℕ) (es : List Entry) : Type 0 where
  pub run : IsWholeRun w es
  pub wait : IsWait w t es k

-- no wait is longer: neither in a run that goes to its end nor in one that is broken off
pub record IsLongestOf (w : Work) (t : ThreadId) (k : ℕ) (es : List Entry) : Type 0 where
  pub comes : IsLongWait w t k es
  pub longest : (fs : List Entry) (n : ℕ) → IsFreshRun w fs → IsWait w t fs n → n ≤ k

-- or there is none in any run; or where not all was searched nothing is said
abbrev pub IsLongest : Work → ThreadId → Longest → Type 0
IsLongest w t (Wait ticks entries) = IsLongestOf w t ticks entries.items
IsLongest w t Never = (fs : List Entry) (n : ℕ) → IsFreshRun w fs → IsWait w t fs n → ⊥
IsLongest w t More = ⊤

-- nothing is said only where not all was searched
abbrev pub IsOpenLongest : Graph → Longest → Type 0
IsOpenLongest g More = g.done < length (packed g)
IsOpenLongest g _ = ⊤
