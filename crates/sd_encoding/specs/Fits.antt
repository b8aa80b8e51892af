-- Values that the program can hold: each number lies in its type.
use Rattle.std.specs.Prelude.{ℕ, ◌<◌, ◌≤◌, ◌^◌, ⊤, length, IfSome}
use Rattle.std.specs.List.{All}
use Rattle.arrayvec.specs.ArrayVec.{ArrayVec}
use Rattle.sd_types.specs.declared.bodies.ThreadBody.{ThreadBody}
use Rattle.sd_types.specs.declared.classes.Quantum.{Quantum}
use Rattle.sd_types.specs.declared.classes.Quantum.TheVariants.{Def, Inf, Ticks}
use Rattle.sd_types.specs.declared.events.Duty.{Duty}
use Rattle.sd_types.specs.declared.events.Duty.TheVariants.{Nothing, Walk, WakeMutex, GrantWriter, GrantReaders, Rouse, Age}
use Rattle.sd_types.specs.declared.numbers.ChanId.{ChanId}
use Rattle.sd_types.specs.declared.numbers.CpuId.{CpuId}
use Rattle.sd_types.specs.declared.numbers.LockId.{LockId}
use Rattle.sd_types.specs.declared.numbers.SetId.{SetId}
use Rattle.sd_types.specs.declared.numbers.ThreadId.{ThreadId}
use Rattle.sd_rules.specs.ClassStates.{IsClassState}
use Rattle.sd_state.specs.declared.states.CpuState.{CpuState}
use Rattle.sd_state.specs.declared.states.LockState.{LockState}
use Rattle.sd_state.specs.declared.states.LockState.TheVariants.{Free, Owned, ReadHeld, Passing}
use Rattle.sd_state.specs.declared.states.Place.{Place}
use Rattle.sd_state.specs.declared.states.Place.TheVariants.{Running, Queued, RealTime, Waiting, Asleep, Napping, Ended}
use Rattle.sd_state.specs.declared.states.State.{State}
use Rattle.sd_state.specs.declared.states.ThreadState.{ThreadState}

abbrev pub FitsCpuId : CpuId → Type 0
FitsCpuId c = c.0 < 2 ^ 16

abbrev pub FitsThreadId : ThreadId → Type 0
FitsThreadId t = t.0 < 2 ^ 16

abbrev pub FitsLockId : LockId → Type 0
FitsLockId l = l.0 < 2 ^ 16

abbrev pub FitsChanId : ChanId → Type 0
FitsChanId k = k.0 < 2 ^ 16

abbrev pub FitsSetId : SetId → Type 0
FitsSetId p = p.0 < 2 ^ 8

-- a lock, and the priority that is inherited from its waiters
abbrev pub FitsInherited : LockId × ℕ → Type 0
FitsInherited x = FitsLockId x.0 × (x.1 < 2 ^ 8)

-- at most so many items, each of which fits
abbrev pub FitsArray : {A : Type 0} → ℕ → (A → Type 0) → ArrayVec A → Type 0
FitsArray most Each x = (length x.items ≤ most) × All Each x.items

abbrev pub FitsPlace : Place → Type 0
FitsPlace (Running c) = FitsCpuId c
FitsPlace (Queued c key) = FitsCpuId c
FitsPlace (RealTime p key) = FitsSetId p
FitsPlace (Waiting l side key) = FitsLockId l
FitsPlace (Asleep k key) = FitsChanId k
FitsPlace (Napping c due) = FitsCpuId c × (due < 2 ^ 32)
FitsPlace Ended = ⊤

abbrev pub FitsLock : LockState → Type 0
FitsLock Free = ⊤
FitsLock (Owned t) = FitsThreadId t
FitsLock (ReadHeld readers) = readers < 2 ^ 16
FitsLock (Passing c readers) = FitsCpuId c × (readers < 2 ^ 16)

abbrev pub FitsDuty : Duty → Type 0
FitsDuty Nothing = ⊤
FitsDuty (Walk l seek key) = FitsLockId l × FitsThreadId seek
FitsDuty (WakeMutex l) = FitsLockId l
FitsDuty (GrantWriter l) = FitsLockId l
FitsDuty (GrantReaders l) = FitsLockId l
FitsDuty (Rouse k below) = FitsChanId k
FitsDuty (Age t) = FitsThreadId t

abbrev pub FitsQuantum : Quantum → Type 0
FitsQuantum Def = ⊤
FitsQuantum Inf = ⊤
FitsQuantum (Ticks n) = n < 2 ^ 32

pub record FitsBody (b : ThreadBody) : Type 0 where
  pub class : IsClassState b.class
  pub willed : FitsArray 8 FitsInherited b.willed
  pub held : FitsArray 8 FitsLockId b.held
  pub op : b.op < 2 ^ 16
  pub run_left : b.run_left < 2 ^ 32
  pub last : FitsCpuId b.last
  pub left_at : IfSome b.left_at (λ n. n < 2 ^ 32)
  pub bound : IfSome b.bound FitsCpuId

pub record FitsThread (x : ThreadState) : Type 0 where
  pub body : FitsBody x.body
  pub place : FitsPlace x.place

pub record FitsCpu (x : CpuState) : Type 0 where
  pub count : x.count < 2 ^ 32
  pub duty : FitsDuty x.duty
  pub set : FitsSetId x.set
  pub closing : IfSome x.closing FitsSetId
  pub bound : x.bound < 2 ^ 16

pub record FitsState (s : State) : Type 0 where
  pub threads : All FitsThread s.threads
  pub locks : All FitsLock s.locks
  pub cpus : All FitsCpu s.cpus
  pub counts : All (λ n. n < 2 ^ 32) s.counts
  pub open_cpus : All (FitsArray 64 FitsCpuId) s.open_cpus
