-- Changes of sets, and who is dispatched, over each step from a state of a run.
-- Source: psrset(1M), pbind(1M).
use Rattle.std.specs.Prelude.{◌≡◌, ℕ, ◌<◌, false, length, Option, Some, None, ◌⊎◌}
use Rattle.sd_types.specs.declared.numbers.CpuId.{CpuId}
use Rattle.sd_types.specs.declared.numbers.SetId.{SetId}
use Rattle.sd_types.specs.declared.numbers.ThreadId.{ThreadId}
use Rattle.sd_types.specs.declared.events.Event.{Event}
use Rattle.sd_types.specs.declared.events.Event.TheVariants.{Dispatch, Steal, Joined}
use Rattle.sd_types.specs.declared.events.Hints.{Hints}
use Rattle.sd_types.specs.declared.works.Work.{Work}
use Rattle.sd_state.specs.declared.states.State.{State}
use Rattle.sd_state.specs.States.{thread_of, cpu_of, is_running, is_queued}
use Rattle.sd_machine.specs.Events.{next, after}
use Rattle.sd_machine.specs.Runs.{IsReached}

-- no thread runs on processor d, and none stands on its queue
abbrev pub IsEmpty : State → ℕ → Type 0
IsEmpty s d = (t : ℕ) → t < length s.threads → (is_running d (thread_of s t).place ≡ false) × (is_queued d (thread_of s t).place ≡ false)

-- the event is the one by which processor d joins the set to which it was closing, empty
pub record IsJoining (s : State) (c : CpuId) (e : Event) (d : ℕ) : Type 0 where
  pub to : SetId
  pub itself : d ≡ c.0
  pub event : e ≡ Joined to
  pub closing : (cpu_of s d).closing ≡ Some to
  pub empty : IsEmpty s d

-- a step leaves the set of each processor, or it is the one by which that processor joins another
abbrev pub SetsChangeByJoining : Type 0
SetsChangeByJoining =
    (w : Work) (n : ℕ) (s : State) (c : CpuId) (hints : Option Hints) (e : Event) → IsReached w n s → next w s c hints ≡ Some e
    → (d : ℕ) → ((cpu_of (after w s n c e) d).set ≡ (cpu_of s d).set) ⊎ IsJoining s c e d

-- a thread that is bound to a processor is dispatched by that one
abbrev pub BoundAreDispatchedAtHome : Type 0
BoundAreDispatchedAtHome =
    (w : Work) (n : ℕ) (s : State) (c : CpuId) (hints : Option Hints) (t : ThreadId) (p : ℕ) (d : CpuId) → IsReached w n s
    → next w s c hints ≡ Some (Dispatch t p) → (thread_of s t.0).body.bound ≡ Some d → d ≡ c

-- and a thread that is stolen is bound to none
abbrev pub StolenAreUnbound : Type 0
StolenAreUnbound =
    (w : Work) (n : ℕ) (s : State) (c : CpuId) (hints : Option Hints) (v : CpuId) (t : ThreadId) (p : ℕ) → IsReached w n s
    → next w s c hints ≡ Some (Steal v t p) → (thread_of s t.0).body.bound ≡ None
