-- What is said of priority inheritance through chains of locks, in every state of every run of the machine.
-- Source: Solaris Internals (turnstiles, priority inheritance); that a walk takes one lock at a time, and how it finds that
-- a chain is closed, are this project's own.
use Rattle.std.specs.Prelude.{◌≡◌, ◌≢◌, ℕ, true, List, [], ◌++◌, Option, Some, ℤ, int_lt, ◌⊎◌, if◌then◌else◌}
use Rattle.sd_types.specs.declared.numbers.CpuId.{CpuId}
use Rattle.sd_types.specs.declared.numbers.LockId.{LockId}
use Rattle.sd_types.specs.declared.numbers.Side.{Side}
use Rattle.sd_types.specs.declared.numbers.ThreadId.{ThreadId}
use Rattle.sd_types.specs.declared.events.Duty.TheVariants.{Nothing, Walk}
use Rattle.sd_types.specs.declared.events.Entry.{Entry}
use Rattle.sd_types.specs.declared.events.Event.TheVariants as event
use Rattle.sd_types.specs.declared.events.Hints.{Hints}
use Rattle.sd_types.specs.declared.events.Put.{Put}
use Rattle.sd_types.specs.declared.works.Work.{Work}
use Rattle.sd_machine.specs.Graphs.{InCycle, IsLocal, IsSoundGraph, IsChainMax, IsCalm}
use Rattle.sd_machine.specs.Cycles.{IsCycle}
use Rattle.sd_state.specs.declared.states.LockState.TheVariants.{Owned}
use Rattle.sd_state.specs.declared.states.Place.TheVariants.{Waiting}
use Rattle.sd_state.specs.declared.states.State.{State}
use Rattle.sd_state.specs.States.{thread_of, cpu_of, eff_of}
use Rattle.sd_state.specs.Opening.{opening}
use Rattle.sd_machine.specs.Threads.{lock_of}
use Rattle.sd_machine.specs.Changes.{back_key}
use Rattle.sd_machine.specs.Events.{next, after}
use Rattle.sd_machine.specs.LockGraph.{graph, cycles_of}
use Rattle.sd_machine.specs.Runs.{final, IsRun, IsReached}

-- a thread keeps numbers only for locks that it owns; where it is in no blocking cycle and no walk stands at a lock that it
-- owns, the number for the lock is the greatest effective priority of the lock's waiters, and there is none where nobody waits
abbrev pub InheritanceIsLocal : State → Type 0
InheritanceIsLocal s = IsLocal (graph s)

-- after n entries that, and: a walk at a lock whose owner waits, with a key of at most the walk's, has come along the chain of
-- the thread that it seeks, which still waits with the walk's key; a looped thread is in a blocking cycle; the key of each
-- waiter and of each walk is less than 4096 + n
abbrev pub WalksLeadOn : ℕ → State → Type 0
WalksLeadOn n s = IsSoundGraph (back_key n) (graph s)

-- the effective priority of a thread that is in no blocking cycle is the maximum of the base priorities of itself and of all
-- threads blocked behind it, where no walk stands at a lock that it or one of them owns
abbrev pub OwnersHaveChainMaximum : State → Type 0
OwnersHaveChainMaximum s = (o : ℕ) → (InCycle (graph s) o → ⊥) → IsCalm (graph s) o → IsChainMax (graph s) o (eff_of s o)

-- no processor walks along a chain
abbrev pub NobodyWalks : State → Type 0
NobodyWalks s = (c : ℕ) (l : LockId) (seek : ThreadId) (key : ℤ) → (cpu_of s c).duty ≢ Walk l seek key

-- where nobody walks, the effective priority of each thread that is in no blocking cycle is the maximum of the base
-- priorities of itself and of all threads blocked behind it
abbrev pub PrioritiesAreMaxima : State → Type 0
PrioritiesAreMaxima s = NobodyWalks s → (o : ℕ) → (InCycle (graph s) o → ⊥) → IsChainMax (graph s) o (eff_of s o)

-- Walks.

-- a walk that seeks a thread with a key closes its chain at o: o is looped, or it is the thread that is sought and waits with
-- that key
abbrev pub Closes : State → ThreadId → ThreadId → ℤ → Type 0
Closes s o seek key =
    ((thread_of s o.0).body.looped ≡ true) ⊎ ((m : LockId) × (side : Side) × ((thread_of s o.0).place ≡ Waiting m side key) × (seek.0 ≡ o.0))

-- o waits for no lock
abbrev pub WaitsNowhere : State → ThreadId → Type 0
WaitsNowhere s o = (m : LockId) (side : Side) (k : ℤ) → (thread_of s o.0).place ≢ Waiting m side k

-- what becomes of a walk of processor c that has given the owner o its number, from state s to state r
pub record WalkGoesOn (s r : State) (c : ℕ) (o seek : ThreadId) (key : ℤ) : Type 0 where
  -- where o waits on a lock and the chain is not closed, the walk stands at that lock next; it seeks o from there on where o
  -- waits with a greater key, and else the same thread
  pub goes : (m : LockId) (side : Side) (k : ℤ) → (thread_of s o.0).place ≡ Waiting m side k → (Closes s o seek key → ⊥)
      → (cpu_of r c).duty ≡ (if int_lt key k then Walk m o k else Walk m seek key)
  -- where o waits on none, it ends
  pub rests : WaitsNowhere s o → (cpu_of r c).duty ≡ Nothing
  -- where o waits and the chain is closed, it ends, and o is in a blocking cycle before and after
  pub closes : (m : LockId) (side : Side) (k : ℤ) → (thread_of s o.0).place ≡ Waiting m side k → Closes s o seek key
      → ((cpu_of r c).duty ≡ Nothing) × InCycle (graph s) o.0 × InCycle (graph r) o.0
  -- and it ends nowhere else
  pub ends : (cpu_of r c).duty ≡ Nothing → WaitsNowhere s o ⊎ Closes s o seek key

-- each walk goes on from an owner that waits; it ends at one that does not wait, and at one in a blocking cycle
abbrev pub WalksGoOn : Type 0
WalksGoOn =
    (w : Work) (n : ℕ) (s : State) (c : CpuId) (hints : Option Hints) (l : LockId) (o : ThreadId) (p : ℕ) (at : Option Put)
    → IsReached w n s → next w s c hints ≡ Some (event.Will l o p at)
    → (seek : ThreadId) × (key : ℤ) × ((cpu_of s c.0).duty ≡ Walk l seek key) × (lock_of s l.0 ≡ Owned o)
    × WalkGoesOn s (after w s n c (event.Will l o p at)) c.0 o seek key

-- a walk that gives nobody a number stands at a lock that nobody owns, and it ends
abbrev pub WalksEndAtUnowned : Type 0
WalksEndAtUnowned =
    (w : Work) (n : ℕ) (s : State) (c : CpuId) (hints : Option Hints) (l : LockId)
    → IsReached w n s → next w s c hints ≡ Some (event.End l)
    → (seek : ThreadId) × (key : ℤ) × ((cpu_of s c.0).duty ≡ Walk l seek key) × ((o : ThreadId) → lock_of s l.0 ≢ Owned o)
    × ((cpu_of (after w s n c (event.End l)) c.0).duty ≡ Nothing)

-- Cycles.

-- the threads of a blocking cycle of a state of a run are one of each later state
abbrev pub CyclesStay : Type 0
CyclesStay =
    (w : Work) (es more : List Entry) (ts : List ℕ) → IsRun w (es ++ more)
    → IsCycle (graph (final w (opening w) es)) ts → IsCycle (graph (final w (opening w) (es ++ more))) ts

-- a thread that is in a blocking cycle stays in one
abbrev pub CyclicThreadsStay : Type 0
CyclicThreadsStay =
    (w : Work) (es more : List Entry) (o : ℕ) → IsRun w (es ++ more)
    → InCycle (graph (final w (opening w) es)) o → InCycle (graph (final w (opening w) (es ++ more))) o

-- where no blocking cycle is listed at the end of a run, in each of its states in which nobody walks the effective priority of
-- every thread is the maximum of the base priorities of itself and of all threads blocked behind it
abbrev pub MaximaWithoutCycles : Type 0
MaximaWithoutCycles =
    (w : Work) (es more : List Entry) → IsRun w (es ++ more) → cycles_of (final w (opening w) (es ++ more)) ≡ []
    → NobodyWalks (final w (opening w) es) → (o : ℕ) → IsChainMax (graph (final w (opening w) es)) o (eff_of (final w (opening w) es) o)
