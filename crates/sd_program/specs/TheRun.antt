-- The run that is printed, and what holds of it.
-- Source: Solaris Internals (dispatching, turnstiles), psrset(1M); that runs go in rounds, or on threads of the host, is this project's own.
use Rattle.std.specs.Prelude.{◌≡◌, ⊤, ℕ, ◌<◌, ◌≤◌, true, List, [], ◌∷◌, ◌++◌, length, take}
use Rattle.sd_types.specs.declared.events.Entry.{Entry}
use Rattle.sd_types.specs.declared.works.Work.{Work}
use Rattle.sd_machine.specs.Graphs.{IsChainMax}
use Rattle.sd_state.specs.Accounts.{is_wake_of}
use Rattle.sd_state.specs.States.{thread_of, cpu_of, eff_of}
use Rattle.sd_machine.specs.LockGraph.{graph, cycles_of}
use Rattle.sd_machine.specs.Runs.{state_at, IsRun, IsComplete, IsSerial, final_state}
use Rattle.sd_machine.specs.Texts.{journal}
use Rattle.sd_state.specs.Invariants.{MarksStand}
use Rattle.sd_laws.specs.Belonging.{EachInOnePlace, ThreadsBelong}
use Rattle.sd_laws.specs.InheritanceLaws.{NobodyWalks, PrioritiesAreMaxima}
use Rattle.sd_hand.specs.OneHome.{StandsInHomes}
use Rattle.sd_laws.specs.HistoryLaws.{NoneStops, runs_or_is_runnable}
use Rattle.sd_audit.specs.Audits.{IsJournal}
use Rattle.sd_rounds.specs.Orders.{orders_of}
use Rattle.sd_program.specs.declared.forms.Mode.{Mode}
use Rattle.sd_program.specs.declared.forms.Mode.TheVariants.{Rounds, Threads}

-- from an entry that the accounts count as a wake of a thread, as long as no entry stops it, the thread is on a dispatch
-- queue or runs
abbrev pub WokenStayRunnableIn : Work → List Entry → Type 0
WokenStayRunnableIn w es =
    (before more rest : List Entry) (e : Entry) (t : ℕ) → es ≡ before ++ e ∷ (more ++ rest) → is_wake_of t e.event ≡ true → NoneStops t more
    → runs_or_is_runnable (thread_of (final_state w (before ++ e ∷ more)) t).place ≡ true

-- the run goes in rounds in which the processors take these turns; or, on threads of the host, in any order
abbrev pub Goes : Work → Mode → List Entry → Type 0
Goes w (Rounds orders) es = IsSerial w (orders_of w orders) es
Goes w Threads es = ⊤

-- The entries are those of a run in which the processors act so: a complete legal run, at whose end each processor has
-- counted the ticks of the limit.
pub record IsTheRun (w : Work) (mode : Mode) (es : List Entry) : Type 0 where
  pub goes : Goes w mode es
  pub run : IsRun w es
  pub complete : IsComplete w (final_state w es)
  pub limit : (c : ℕ) → c < w.cpus → (cpu_of (final_state w es) c).count ≡ w.limit
  -- in each of its states each thread stands in exactly one place, which is there, and at most one runs on a processor;
  pub places : (k : ℕ) → EachInOnePlace w (length (take k es)) (state_at w es k)
  -- there are homes (dispatch queues, sleep queues, turnstiles) that stand for it, all that it has, with each thread in one list of one of
  -- them (that those in memory are such is what the worlds keep on which a run goes, `Stands` of sd_world);
  pub homes : (k : ℕ) → k ≤ length es → StandsInHomes k (state_at w es k)
  -- the place suits the thread's set, binding and priority, and processors are marked that have to look at their queues;
  pub belong : (k : ℕ) → ThreadsBelong w (state_at w es k)
  pub marks : (k : ℕ) → MarksStand (state_at w es k)
  -- a woken thread is on a dispatch queue or runs, until it stops again;
  pub woken : WokenStayRunnableIn w es
  -- where no processor walks along a chain of owners, the effective priority of each thread that is in no blocking cycle is
  -- the maximum of the base priorities of itself and of all threads blocked behind it;
  pub priorities : (k : ℕ) → PrioritiesAreMaxima (state_at w es k)
  -- and the journal of the run is one that the audit finds legal
  pub certified : IsJournal w (journal w es) (final_state w es) (length es)

-- No state of the run has a blocking cycle. So where no processor walks along a chain of owners, the effective priority of
-- every thread is the maximum of the base priorities of itself and of all threads blocked behind it.
pub record IsCycleFree (w : Work) (es : List Entry) : Type 0 where
  pub cycles : (k : ℕ) → cycles_of (state_at w es k) ≡ []
  pub maxima : (k : ℕ) → NobodyWalks (state_at w es k) → (o : ℕ) → IsChainMax (graph (state_at w es k)) o (eff_of (state_at w es k) o)
