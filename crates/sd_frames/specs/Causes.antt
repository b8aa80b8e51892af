-- What the order of a processor's events says of the state in which an event comes.
use Rattle.std.specs.Prelude.{◌≡◌, ◌≢◌, ℕ, ◌+◌, ◌<◌, true, false, length, Option, Some, None, ℤ, ⊤, ◌⊎◌}
use Rattle.std.specs.List.{Contains}
use Rattle.sd_types.specs.declared.numbers.CpuId.{CpuId}
use Rattle.sd_types.specs.declared.numbers.LockId.{LockId}
use Rattle.sd_types.specs.declared.numbers.Side.{Side}
use Rattle.sd_types.specs.declared.numbers.Side.TheVariants.{Writer, Reader}
use Rattle.sd_types.specs.declared.numbers.ThreadId.{ThreadId}
use Rattle.sd_types.specs.declared.classes.ClassParms.{ClassParms}
use Rattle.sd_types.specs.declared.events.Duty.{Duty}
use Rattle.sd_types.specs.declared.events.Duty.TheVariants as duty
use Rattle.sd_types.specs.declared.events.Event.{Event}
use Rattle.sd_types.specs.declared.events.Event.TheVariants.{Tick, Spin, Idle, Dispatch, Steal, Preempt, Yield, Done, Nap, Napend, Sleep, Wake, Wakeall, Rouse, Enter, Read, Write, Block, Will, End, Exit, Unblock, Grant, Passed, Age, Prio, CvWait, SemaP, SemaWait, SemaVWake, SemaVCount, Assign, Move, Joined, Bind, Away}
use Rattle.sd_types.specs.declared.events.PrioAnswer.{PrioAnswer}
use Rattle.sd_types.specs.declared.events.PrioAnswer.TheVariants.{Changed, Refused}
use Rattle.sd_types.specs.declared.events.Put.{Put}
use Rattle.sd_types.specs.declared.events.Put.TheVariants.{Cpu}
use Rattle.sd_types.specs.declared.scripts.Op.{Op}
use Rattle.sd_types.specs.declared.scripts.Op.TheVariants as op
use Rattle.sd_types.specs.declared.scripts.Request.{Request}
use Rattle.sd_types.specs.declared.works.Work.{Work}
use Rattle.std.specs.Prelude.{Ok}
use Rattle.sd_machine.specs.declared.plans.Requeue.TheVariants.{Stays, Behind, Anew}
use Rattle.sd_state.specs.declared.states.LockState.TheVariants.{Free, Owned, ReadHeld}
use Rattle.sd_state.specs.declared.states.State.{State}
use Rattle.sd_state.specs.States.{thread_of, cpu_of, eff_of}
use Rattle.sd_state.specs.Operations.{op_of}
use Rattle.sd_machine.specs.Threads.{lock_of, count_of, runner, best_ready, best_queued, best_unbound, best_waiter, best_sleeper, best_sleeper_below, first_due, next_to_age}
use Rattle.sd_types.specs.Priorities.{eff_as}
use Rattle.sd_machine.specs.Changes.{cpu_put}
use Rattle.sd_machine.specs.Choosing.{cpus_for, neighbours, put_on}
use Rattle.sd_machine.specs.Dispatching.{must_leave}
use Rattle.sd_machine.specs.Sleeping.{woken_priority}
use Rattle.sd_machine.specs.Locking.{writer_priority}
use Rattle.sd_machine.specs.Requeueing.{requeue}
use Rattle.sd_machine.specs.Walking.{inherited_priority}
use Rattle.sd_machine.specs.Prioritising.{answer_to, new_class}
use Rattle.sd_machine.specs.SetChanges.{assign_answer, bind_to}
use Rattle.sd_machine.specs.Events.{may_tick}

-- no duty but the ageing of the queue, which gives way
abbrev pub GivesWay : Duty → Type 0
GivesWay duty.Nothing = ⊤
GivesWay (duty.Age u) = ⊤
GivesWay _ = ⊥

-- thread t runs on processor c
abbrev pub Runs : State → ℕ → ℕ → Type 0
Runs s c t = runner s c ≡ Some t

-- no thread runs on processor c, which has no duty
pub record IsIdle (s : State) (c : ℕ) : Type 0 where
  pub nobody : runner s c ≡ None
  pub free : GivesWay (cpu_of s c).duty

-- and it is not closing
pub record IsOpenIdle (s : State) (c : ℕ) : Type 0 where
  pub idle : IsIdle s c
  pub opened : (cpu_of s c).closing ≡ None

-- thread t runs on processor c, and does not have to leave; this is its operation
pub record Acts (w : Work) (s : State) (c t : ℕ) (o : Option Op) : Type 0 where
  pub runs : Runs s c t
  pub free : GivesWay (cpu_of s c).duty
  pub stays : must_leave (cpu_of s c) (thread_of s t).body ≡ false
  pub stands : op_of w t (thread_of s t).body ≡ o

pub record Leaves (s : State) (c t : ℕ) : Type 0 where
  pub runs : Runs s c t
  pub free : GivesWay (cpu_of s c).duty
  pub leaves : must_leave (cpu_of s c) (thread_of s t).body ≡ true

-- thread t, of priority p after the event, is put on the queue that suits it, of a processor on which it may run
pub record IsPut (w : Work) (s : State) (t p : ℕ) (at : Put) : Type 0 where
  pub suits : at ≡ put_on p (thread_of s t).body.bound (cpu_put at)
  pub chosen : 0 < length (cpus_for w s t) → Contains (cpus_for w s t) (cpu_put at)

-- a thread whose priority becomes p goes where its place and its priority say, if anywhere
abbrev pub IsRequeuedAt : Work → State → ℕ → ℕ → Option Put → Type 0
IsRequeuedAt w s t p None = requeue (thread_of s t).place (eff_of s t) p (thread_of s t).body.bound ≡ Stays
IsRequeuedAt w s t p (Some at) =
    ((d : CpuId) × (requeue (thread_of s t).place (eff_of s t) p (thread_of s t).body.bound ≡ Behind d) × (at ≡ Cpu d))
    ⊎ ((requeue (thread_of s t).place (eff_of s t) p (thread_of s t).body.bound ≡ Anew) × IsPut w s t p at)

-- the operation wants the lock
abbrev pub wants : Op → Option (LockId × Side)
wants (op.Enter l) = Some (l, Writer)
wants (op.Write l) = Some (l, Writer)
wants (op.Read l) = Some (l, Reader)
wants _ = None

-- the thread acts on an operation that wants the lock at a side
pub record Wants (w : Work) (s : State) (c t : ℕ) (l : LockId) (side : Side) : Type 0 where
  pub by : Op
  pub acts : Acts w s c t (Some by)
  pub wanted : wants by ≡ Some (l, side)

-- thread u is the best sleeper on channel k and is put
pub record IsWoken (w : Work) (s : State) (k u : ℕ) (at : Put) : Type 0 where
  pub best : best_sleeper s k ≡ Some u
  pub put : IsPut w s u (woken_priority w s u) at

abbrev pub WakesBest : Work → State → ℕ → Option (ThreadId × Put) → Type 0
WakesBest w s k None = best_sleeper s k ≡ None
WakesBest w s k (Some u) = IsWoken w s k u.0.0 u.1

-- the same of the sleepers with a key below a number
abbrev pub RousesBest : Work → State → ℕ → ℤ → Option (ThreadId × Put) → Type 0
RousesBest w s k below None = best_sleeper_below s k below ≡ None
RousesBest w s k below (Some u) = (best_sleeper_below s k below ≡ Some u.0.0) × IsPut w s u.0.0 (woken_priority w s u.0.0) u.1

-- the lock goes to its best writer, or to its best reader
abbrev pub IsGranted : Work → State → ℕ → LockId → ℕ → Put → Type 0
IsGranted w s c l u at =
    (((cpu_of s c).duty ≡ duty.GrantWriter l) × (best_waiter s l.0 Writer ≡ Some u) × IsPut w s u (writer_priority w s l u) at)
    ⊎ (((cpu_of s c).duty ≡ duty.GrantReaders l) × (best_waiter s l.0 Reader ≡ Some u) × IsPut w s u (woken_priority w s u) at)

-- thread t asks for other class parameters of thread u
abbrev pub IsAnswered : Work → State → ℕ → ℕ → ℕ → Request → PrioAnswer → Type 0
IsAnswered w s c t u r (Refused denied) = ⊤
IsAnswered w s c t u r (Changed p at) =
    (parms : ClassParms) × (answer_to w s t u r ≡ Ok parms) × (p ≡ eff_as (new_class w s u parms) (thread_of s u).body) × IsRequeuedAt w s u p at

abbrev pub IsCause : Work → State → ℕ → Event → Type 0
IsCause w s c (Tick t) = ((n : ℕ) × Acts w s c t.0 (Some (op.Run n))) × (may_tick w s c ≡ true)
IsCause w s c (Spin t l) = ((side : Side) × Wants w s c t.0 l side) × (may_tick w s c ≡ true)
IsCause w s c Idle = IsOpenIdle s c × (best_ready s c ≡ None) × (may_tick w s c ≡ true)
IsCause w s c (Dispatch t p) = IsOpenIdle s c × (best_ready s c ≡ Some t.0)
IsCause w s c (Steal v t p) = IsOpenIdle s c × (best_ready s c ≡ None) × Contains (neighbours s c) v × (best_unbound s v.0 ≡ Some t.0)
IsCause w s c (Preempt t end) = Leaves s c t.0 × (((thread_of s t.0).body.bound ≡ None) ⊎ ((d : CpuId) × ((thread_of s t.0).body.bound ≡ Some d) × (d.0 ≡ c)))
IsCause w s c (Away t d) = Leaves s c t.0 × ((thread_of s t.0).body.bound ≡ Some d) × (d.0 ≢ c)
IsCause w s c (Yield t) = Acts w s c t.0 (Some op.Yield)
IsCause w s c (Done t) = Acts w s c t.0 None
IsCause w s c (Nap t) = (n : ℕ) × Acts w s c t.0 (Some (op.Nap n))
IsCause w s c (Napend t at) = (first_due s c ≡ Some t.0) × IsPut w s t.0 (woken_priority w s t.0) at × GivesWay (cpu_of s c).duty
IsCause w s c (Sleep t k) = Acts w s c t.0 (Some (op.Sleep k))
IsCause w s c (Wake t k u) = Acts w s c t.0 (Some (op.Wake k)) × WakesBest w s k.0 u
IsCause w s c (Wakeall t k) = Acts w s c t.0 (Some (op.WakeAll k))
IsCause w s c (Rouse k u) = (below : ℤ) × ((cpu_of s c).duty ≡ duty.Rouse k below) × RousesBest w s k.0 below u
IsCause w s c (Enter t l) = Acts w s c t.0 (Some (op.Enter l)) × (lock_of s l.0 ≡ Free)
IsCause w s c (Read t l) =
    Acts w s c t.0 (Some (op.Read l))
    × ((lock_of s l.0 ≡ Free) ⊎ ((n : ℕ) × (lock_of s l.0 ≡ ReadHeld n) × (best_waiter s l.0 Writer ≡ None)))
IsCause w s c (Write t l) = Acts w s c t.0 (Some (op.Write l)) × (lock_of s l.0 ≡ Free)
IsCause w s c (Block t l) =
    (side : Side) × Wants w s c t.0 l side
    × (((o : ThreadId) × (lock_of s l.0 ≡ Owned o)) ⊎ ((n : ℕ) × (lock_of s l.0 ≡ ReadHeld n) × (side ≡ Reader → best_waiter s l.0 Writer ≢ None)))
IsCause w s c (Will l o p at) =
    ((seek : ThreadId) × (key : ℤ) × ((cpu_of s c).duty ≡ duty.Walk l seek key)) × (lock_of s l.0 ≡ Owned o)
    × (p ≡ inherited_priority s l o.0) × IsRequeuedAt w s o.0 p at
IsCause w s c (End l) =
    ((seek : ThreadId) × (key : ℤ) × ((cpu_of s c).duty ≡ duty.Walk l seek key)) × ((o : ThreadId) → lock_of s l.0 ≢ Owned o)
IsCause w s c (Exit t l) = Acts w s c t.0 (Some (op.Exit l))
IsCause w s c (Unblock l u at) = ((cpu_of s c).duty ≡ duty.WakeMutex l) × (best_waiter s l.0 Writer ≡ Some u.0) × IsPut w s u.0 (woken_priority w s u.0) at
IsCause w s c (Grant l u at) = IsGranted w s c l u.0 at
IsCause w s c (Passed l) =
    ((cpu_of s c).duty ≡ duty.GrantReaders l)
    × ((best_waiter s l.0 Reader ≡ None) ⊎ ((u v : ℕ) × (best_waiter s l.0 Reader ≡ Some u) × (best_waiter s l.0 Writer ≡ Some v) × (eff_of s u < eff_of s v)))
IsCause w s c (Age t p) = (u : ThreadId) × ((cpu_of s c).duty ≡ duty.Age u) × (next_to_age s c u.0 ≡ Some t.0)
IsCause w s c (Prio t u answer) = (r : Request) × Acts w s c t.0 (Some (op.Prio u r)) × IsAnswered w s c t.0 u.0 r answer
IsCause w s c (CvWait t k l) = Acts w s c t.0 (Some (op.CvWait k l))
IsCause w s c (SemaP t k) = Acts w s c t.0 (Some (op.SemaP k)) × (0 < count_of s k.0)
IsCause w s c (SemaWait t k) = Acts w s c t.0 (Some (op.SemaP k)) × (count_of s k.0 ≡ 0)
IsCause w s c (SemaVWake t k u at) = Acts w s c t.0 (Some (op.SemaV k)) × IsWoken w s k.0 u.0 at
IsCause w s c (SemaVCount t k n) = Acts w s c t.0 (Some (op.SemaV k)) × (best_sleeper s k.0 ≡ None) × (n ≡ count_of s k.0 + 1)
IsCause w s c (Assign t d to answer) = Acts w s c t.0 (Some (op.Assign d to)) × (answer ≡ assign_answer w s t.0 d to)
IsCause w s c (Move t at) = IsIdle s c × (best_queued s c ≡ Some t.0) × IsPut w s t.0 (eff_of s t.0) at
IsCause w s c (Joined to) = IsIdle s c × ((cpu_of s c).closing ≡ Some to) × (best_queued s c ≡ None)
IsCause w s c (Bind t u d answer) = Acts w s c t.0 (Some (op.Pbind u d)) × (answer ≡ bind_to w s t.0 u.0 d)
