-- That what threads, processors and locks name is there: each number is one of the workload's.
-- Source: this project's own.
use Rattle.std.specs.Prelude.{◌≡◌, ℕ, ◌<◌, ◌≤◌, true, length, Option, IfSome, ⊤}
use Rattle.std.specs.List.{Contains}
use Rattle.sd_types.specs.declared.numbers.CpuId.{CpuId}
use Rattle.sd_types.specs.declared.numbers.LockId.{LockId}
use Rattle.sd_types.specs.declared.numbers.SetId.{SetId}
use Rattle.sd_types.specs.declared.events.Duty.{Duty}
use Rattle.sd_types.specs.declared.events.Duty.TheVariants.{Nothing, Walk, WakeMutex, GrantWriter, GrantReaders, Rouse, Age}
use Rattle.sd_types.specs.declared.works.Work.{Work}
use Rattle.sd_types.specs.Scripts.{is_held}
use Rattle.sd_state.specs.declared.states.LockState.{LockState}
use Rattle.sd_state.specs.declared.states.LockState.TheVariants.{Free, Owned, ReadHeld, Passing}
use Rattle.sd_state.specs.declared.states.CpuState.{CpuState}
use Rattle.sd_state.specs.declared.states.ThreadState.{ThreadState}
use Rattle.sd_state.specs.declared.states.State.{State}
use Rattle.sd_state.specs.States.{thread_of, cpu_of}
use Rattle.sd_machine.specs.Threads.{lock_of, open_of}
use Rattle.sd_machine.specs.Choosing.{cpus_for}
use Rattle.sd_machine.specs.Requeueing.{is_bound_to}
use Rattle.sd_machine.specs.Holders.{counted}
use Rattle.sd_state.specs.Invariants.{IsPlaceThere}

-- a set is the default partition, of number 0, or one of the declared sets
abbrev pub IsSetThere : Work → SetId → Type 0
IsSetThere w p = p.0 ≤ length w.sets

-- the ageing of a queue is over behind the last thread
abbrev pub IsDutyThere : Work → Duty → Type 0
IsDutyThere w Nothing = ⊤
IsDutyThere w (Walk l seek k) = (l.0 < length w.locks) × (seek.0 < length w.threads)
IsDutyThere w (WakeMutex l) = l.0 < length w.locks
IsDutyThere w (GrantWriter l) = l.0 < length w.locks
IsDutyThere w (GrantReaders l) = l.0 < length w.locks
IsDutyThere w (Rouse j below) = j.0 < length w.chans
IsDutyThere w (Age u) = u.0 ≤ length w.threads

abbrev pub IsLockStateThere : Work → LockState → Type 0
IsLockStateThere w Free = ⊤
IsLockStateThere w (Owned t) = t.0 < length w.threads
IsLockStateThere w (ReadHeld n) = ⊤
IsLockStateThere w (Passing c r) = c.0 < w.cpus

abbrev pub IsBoundThere : Work → Option CpuId → Type 0
IsBoundThere w bound = IfSome bound (λ d. d.0 < w.cpus)

pub record IsThreadThere (w : Work) (x : ThreadState) : Type 0 where
  pub place : IsPlaceThere w x.place
  pub last : x.body.last.0 < w.cpus
  pub bound : IsBoundThere w x.body.bound
  pub held : (l : LockId) → is_held l x.body.held.items ≡ true → l.0 < length w.locks

pub record IsCpuThere (w : Work) (x : CpuState) : Type 0 where
  pub set : IsSetThere w x.set
  pub closing : IfSome x.closing (IsSetThere w)
  pub duty : IsDutyThere w x.duty

abbrev pub ThreadsAreThere : Work → State → Type 0
ThreadsAreThere w s = (t : ℕ) → IsThreadThere w (thread_of s t)

abbrev pub CpusAreThere : Work → State → Type 0
CpusAreThere w s = (c : ℕ) → IsCpuThere w (cpu_of s c)

abbrev pub LocksAreThere : Work → State → Type 0
LocksAreThere w s = (l : ℕ) → IsLockStateThere w (lock_of s l)

-- each set has an open processor
abbrev pub SetsAreOpen : Work → State → Type 0
SetsAreOpen w s = (p : ℕ) → p ≤ length w.sets → 0 < length (open_of s p)

-- there are processors on which thread t may run
pub record HasCpus (w : Work) (s : State) (t : ℕ) : Type 0 where
  pub some : 0 < length (cpus_for w s t)
  pub there : (d : CpuId) → Contains (cpus_for w s t) d → d.0 < w.cpus

abbrev pub ThreadsHaveCpus : Work → State → Type 0
ThreadsHaveCpus w s = (t : ℕ) → HasCpus w s t

-- each processor counts the threads that are bound to it
abbrev pub BoundAreCounted : Work → State → Type 0
BoundAreCounted w s = (d : CpuId) → d.0 < w.cpus → (cpu_of s d.0).bound ≡ counted (λ t. is_bound_to d (thread_of s t).body.bound) (length s.threads)
