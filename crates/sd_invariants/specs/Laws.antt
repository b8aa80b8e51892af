-- What the laws of the whole machine say.
use Rattle.std.specs.Prelude.{◌≡◌, ℕ, ◌+◌, ◌<◌, ◌≤◌, ◌^◌, Bool, true, false, List, [], ◌∷◌, length, take, nat_lt, ◌==◌, Option, Some, None, ⊤}
use Rattle.std.specs.List.{list_any, list_all}
use Rattle.sd_machine.specs.Shapes.{FitsFully}
use Rattle.sd_machine.specs.Threads.{open_of, lock_of, count_of}
use Rattle.sd_types.specs.declared.numbers.CpuId.{CpuId}
use Rattle.sd_types.specs.declared.numbers.ThreadId.{ThreadId}
use Rattle.sd_types.specs.declared.events.Entry.{Entry}
use Rattle.sd_types.specs.declared.events.Event.{Event}
use Rattle.sd_types.specs.declared.events.Event.TheVariants.{Napend, Wake, Rouse, Unblock, Grant, SemaVWake}
use Rattle.sd_types.specs.declared.events.Hints.{Hints}
use Rattle.sd_types.specs.declared.works.Work.{Work}
use Rattle.sd_types.specs.Priorities.{eff}
use Rattle.sd_types.specs.Willed.{InheritsSoundly}
use Rattle.sd_state.specs.declared.states.LockState.TheVariants.{Owned}
use Rattle.sd_state.specs.declared.states.Place.{Place}
use Rattle.sd_state.specs.declared.states.Place.TheVariants.{Queued, RealTime}
use Rattle.sd_state.specs.declared.states.State.{State}
use Rattle.sd_state.specs.States.{thread_of, cpu_of}
use Rattle.sd_machine.specs.Events.{next, after}
use Rattle.sd_machine.specs.Runs.{IsReached, IsRun, IsStep}
use Rattle.sd_frames.specs.Causes.{IsCause}

-- in every state to which a run leads
abbrev pub HoldsWhenReached : (Work → State → Type 0) → Type 0
HoldsWhenReached P = (w : Work) (n : ℕ) (s : State) → IsReached w n s → P w s

-- the same of what speaks of the number of entries
abbrev pub HoldsAfterEntries : (Work → ℕ → State → Type 0) → Type 0
HoldsAfterEntries P = (w : Work) (n : ℕ) (s : State) → IsReached w n s → P w n s

-- what a processor may make in such a state has its cause there
abbrev pub EventsHaveCauses : Type 0
EventsHaveCauses = (w : Work) (n : ℕ) (s : State) (c : CpuId) (hints : Option Hints) (e : Event) → IsReached w n s → next w s c hints ≡ Some e → IsCause w s c.0 e

-- no processor has counted more ticks than the limit
abbrev pub CountsWithin : Work → State → Type 0
CountsWithin w s = (c : ℕ) → (cpu_of s c).count ≤ w.limit

-- the thread that an event wakes: after a nap, a sleep or a wait for a lock
abbrev pub woken_by : Event → Option ℕ
woken_by (Napend t at) = Some t.0
woken_by (Wake t k (Some u)) = Some u.0.0
woken_by (Rouse k (Some u)) = Some u.0.0
woken_by (Unblock l u at) = Some u.0
woken_by (Grant l u at) = Some u.0
woken_by (SemaVWake t k u at) = Some u.0
woken_by _ = None

-- on a processor's queue, or on the real-time queue of a partition
abbrev pub is_runnable : Place → Bool
is_runnable (Queued c k) = true
is_runnable (RealTime p k) = true
is_runnable _ = false

-- an event that wakes a thread leaves it on a dispatch queue
abbrev pub WokenAreRunnable : Type 0
WokenAreRunnable =
    (w : Work) (n : ℕ) (s : State) (c : CpuId) (hints : Option Hints) (e : Event) (u : ℕ) → IsReached w n s → next w s c hints ≡ Some e → woken_by e ≡ Some u
    → is_runnable (thread_of (after w s n c e) u).place ≡ true

-- each thread inherits priorities below 160, one for each of some locks that it holds, and its own is below 160
abbrev pub AreSound : State → Type 0
AreSound s = (t : ℕ) → InheritsSoundly (thread_of s t).body × (eff (thread_of s t).body < 160)

-- the processor is in the list
abbrev pub is_in : ℕ → List CpuId → Bool
is_in c xs = list_any (λ d. d.0 == c) xs

-- the numbers of the processors rise, from n on
abbrev pub IsRising : ℕ → List CpuId → Type 0
IsRising n [] = ⊤
IsRising n (x ∷ xs) = (n ≤ x.0) × IsRising (x.0 + 1) xs

-- the open processors of a set rise; each is one of the workload's, of that set, and not closing
pub record OpenHold (w : Work) (s : State) : Type 0 where
  pub member : (p c : ℕ) → is_in c (open_of s p) ≡ true → (c < w.cpus) × ((cpu_of s c).set.0 ≡ p) × ((cpu_of s c).closing ≡ None)
  pub rising : (p : ℕ) → IsRising 0 (open_of s p)

-- There is as much of everything as the workload has, owners are there, inherited priorities are priorities, and each count
-- may rise once more.
pub record IsFit (w : Work) (s : State) : Type 0 where
  pub fits : FitsFully w s
  pub owners : (l : ℕ) (o : ThreadId) → lock_of s l ≡ Owned o → o.0 < length s.threads
  pub willed : (t : ℕ) → list_all (λ n. nat_lt n.1 160) (thread_of s t).body.willed.items ≡ true
  pub counts : (k : ℕ) → count_of s k + 1 < 2 ^ 32

-- a state of a run can be read, and counted on
abbrev pub StatesFit : Type 0
StatesFit = (w : Work) (n : ℕ) (s : State) → IsReached w n s → IsFit w s

-- given the state, the number, the processor and what it reads there is at most one event and one next state
abbrev pub OneNext : Type 0
OneNext =
    (w : Work) (s : State) (d e : Entry) → d.number ≡ e.number → d.cpu ≡ e.cpu → d.hints ≡ e.hints → IsStep w s d → IsStep w s e
    → (d.event ≡ e.event) × (after w s d.number d.cpu d.event ≡ after w s e.number e.cpu e.event)

-- a prefix of a run is a run, so that what holds after every run holds in each state of one
abbrev pub FrontsAreRuns : Type 0
FrontsAreRuns = (w : Work) (es : List Entry) (k : ℕ) → IsRun w es → IsRun w (take k es)
