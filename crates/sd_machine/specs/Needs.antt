-- What an event needs of the state in which it happens: that what it names is there, that its thread runs or that none does,
-- and that there is room and numbers stay in their types. Each event that a processor may make in a state of a run has it.
-- Source: this project's own.
use Rattle.std.specs.Prelude.{◌≡◌, ℕ, ◌+◌, ◌<◌, ◌≤◌, ◌^◌, Bool, true, false, List, [], ◌∷◌, length, nat_lt, Option, Some, None, IfSome, IsTrue, ⊤}
use Rattle.sd_types.specs.declared.numbers.ChanId.{ChanId}
use Rattle.sd_types.specs.declared.numbers.CpuId.{CpuId}
use Rattle.sd_types.specs.declared.numbers.LockId.{LockId}
use Rattle.sd_types.specs.declared.numbers.SetId.{SetId}
use Rattle.sd_types.specs.declared.numbers.ThreadId.{ThreadId}
use Rattle.sd_types.specs.declared.events.BindAnswer.{BindAnswer}
use Rattle.sd_types.specs.declared.events.BindAnswer.TheVariants as bind
use Rattle.sd_types.specs.declared.events.Event.{Event}
use Rattle.sd_types.specs.declared.events.Event.TheVariants.{Tick, Spin, Idle, Dispatch, Steal, Preempt, Yield, Done, Nap, Napend, Sleep, Wake, Wakeall, Rouse, Enter, Read, Write, Block, Will, End, Exit, Unblock, Grant, Passed, Age, Prio, CvWait, SemaP, SemaWait, SemaVWake, SemaVCount, Assign, Move, Joined, Bind, Away}
use Rattle.sd_types.specs.declared.events.PrioAnswer.{PrioAnswer}
use Rattle.sd_types.specs.declared.events.PrioAnswer.TheVariants.{Changed, Refused}
use Rattle.sd_types.specs.declared.events.Put.{Put}
use Rattle.sd_types.specs.declared.scripts.Op.TheVariants as op
use Rattle.sd_types.specs.declared.scripts.Request.{Request}
use Rattle.sd_types.specs.declared.works.Work.{Work}
use Rattle.sd_types.specs.Scripts.{is_held}
use Rattle.sd_types.specs.Willed.{InheritsSoundly}
use Rattle.sd_types.specs.Limits.{most_held, most_processors}
use Rattle.sd_state.specs.declared.states.LockState.{LockState}
use Rattle.sd_state.specs.declared.states.LockState.TheVariants.{ReadHeld, Passing}
use Rattle.sd_state.specs.declared.states.Place.{Place}
use Rattle.sd_state.specs.declared.states.Place.TheVariants.{Running, Waiting}
use Rattle.sd_state.specs.declared.states.State.{State}
use Rattle.sd_state.specs.States.{thread_of, cpu_of}
use Rattle.sd_state.specs.Operations.{script_of, op_of}
use Rattle.sd_machine.specs.Changes.{cpu_put}
use Rattle.sd_machine.specs.Locking.{others_waiting}
use Rattle.sd_machine.specs.Sleeping.{nap_ticks}
use Rattle.sd_machine.specs.Threads.{count_of, greatest_waiting, lock_of, open_of, runner}

-- What is named is there.

abbrev pub IsThread : State → ThreadId → Type 0
IsThread s t = t.0 < length s.threads

abbrev pub IsLock : State → LockId → Type 0
IsLock s l = l.0 < length s.locks

abbrev pub IsChan : State → ChanId → Type 0
IsChan s k = k.0 < length s.counts

abbrev pub IsCpu : State → CpuId → Type 0
IsCpu s d = d.0 < length s.cpus

abbrev pub IsSet : State → SetId → Type 0
IsSet s p = p.0 < length s.open_cpus

-- the processor to which a thread is put
abbrev pub IsPut : State → Put → Type 0
IsPut s at = (cpu_put at).0 < length s.cpus

abbrev pub IsPutIf : State → Option Put → Type 0
IsPutIf s at = IfSome at (λ p. (cpu_put p).0 < length s.cpus)

-- a thread that is woken, where one is, and the processor to which it is put
pub record IsWoken (s : State) (u : Option (ThreadId × Put)) : Type 0 where
  pub thread : IfSome u (λ v. v.0.0 < length s.threads)
  pub put : IfSome u (λ v. (cpu_put v.1).0 < length s.cpus)

-- where a thread runs, that processor
abbrev pub RunsThere : State → ThreadId → Type 0
RunsThere s t = (d : CpuId) → (thread_of s t.0).place ≡ Running d → d.0 < length s.cpus

-- Who runs.

abbrev pub RunsOn : State → ThreadId → CpuId → Type 0
RunsOn s t c = (thread_of s t.0).place ≡ Running c

-- no thread runs on the processor
abbrev pub RunsNobody : State → CpuId → Type 0
RunsNobody s c = runner s c.0 ≡ None

-- the thread is there and runs on the processor
pub record Runs (s : State) (t : ThreadId) (c : CpuId) : Type 0 where
  pub thread : IsThread s t
  pub place : RunsOn s t c

-- The operation is there, and there is room.

-- the thread stands at one of its operations
abbrev pub CanFinish : Work → State → ThreadId → Type 0
CanFinish w s t = (thread_of s t.0).body.op < length (script_of w t.0)

-- it runs on the processor and stands at one of its operations
pub record CanAct (w : Work) (s : State) (t : ThreadId) (c : CpuId) : Type 0 where
  pub thread : IsThread s t
  pub place : RunsOn s t c
  pub op : CanFinish w s t

abbrev pub CanTick : Work → State → CpuId → Type 0
CanTick w s c = (cpu_of s c.0).count < w.limit

-- its nap ends at a count that fits
abbrev pub CanNap : Work → State → ThreadId → CpuId → Type 0
CanNap w s t c = (cpu_of s c.0).count + nap_ticks (op_of w t.0 (thread_of s t.0).body) < 2 ^ 32

-- it can hold one lock more, and does not hold this one
pub record CanHold (s : State) (t : ThreadId) (l : LockId) : Type 0 where
  pub room : length (thread_of s t.0).body.held.items < most_held
  pub apart : is_held l (thread_of s t.0).body.held.items ≡ false

-- it holds the lock, through which it is to inherit a priority, or none
pub record CanInherit (s : State) (o : ThreadId) (l : LockId) (number : Option ℕ) : Type 0 where
  pub sound : InheritsSoundly (thread_of s o.0).body
  pub held : IsTrue (is_held l (thread_of s o.0).body.held.items)
  pub below : IfSome number (λ n. n < 160)

-- one reader more can be counted
abbrev pub more_fits : LockState → Bool
more_fits (ReadHeld n) = nat_lt (n + 1) (2 ^ 16)
more_fits (Passing d r) = nat_lt (r + 1) (2 ^ 16)
more_fits _ = true

-- a waiter can be given the lock, and inherit the greatest priority of those who are left
pub record CanReceive (w : Work) (s : State) (u : ThreadId) (l : LockId) : Type 0 where
  pub thread : IsThread s u
  pub op : CanFinish w s u
  pub room : length (thread_of s u.0).body.held.items < most_held
  pub apart : is_held l (thread_of s u.0).body.held.items ≡ false
  pub sound : InheritsSoundly (thread_of s u.0).body
  pub below : IfSome (others_waiting s l u.0) (λ n. n < 160)
  pub more : more_fits (lock_of s l.0) ≡ true

-- one token more can be counted
abbrev pub CanCount : State → ChanId → Type 0
CanCount s k = count_of s k.0 + 1 < 2 ^ 32

-- one processor more can be listed
abbrev pub CanJoin : State → SetId → Type 0
CanJoin s p = length (open_of s p.0) < most_processors

-- Answers.

abbrev pub IsPrioPut : State → PrioAnswer → Type 0
IsPrioPut s (Changed p at) = IsPutIf s at
IsPrioPut s (Refused denied) = ⊤

-- a thread that waits for a lock goes on waiting there
abbrev pub IsUnmoved : Place → PrioAnswer → Type 0
IsUnmoved (Waiting l side k) (Changed p at) = at ≡ None
IsUnmoved place answer = ⊤

abbrev pub IsBindPut : State → BindAnswer → Type 0
IsBindPut s (bind.Changed at) = IsPutIf s at
IsBindPut s _ = ⊤

-- a processor counts one thread more that is bound to it
abbrev pub CanBind : State → Option CpuId → BindAnswer → Type 0
CanBind s (Some d) (bind.Changed at) = (cpu_of s d.0).bound + 1 < 2 ^ 16
CanBind s d answer = ⊤

-- the end of a binding is that of a thread which its processor counts
abbrev pub CanUnbind : State → ThreadId → Option CpuId → BindAnswer → Type 0
CanUnbind s u None (bind.Changed at) = IfSome (thread_of s u.0).body.bound (λ b. (b.0 < length s.cpus) × (1 ≤ (cpu_of s b.0).bound))
CanUnbind s u d answer = ⊤

-- Of threads that others change.

pub record CanBeChanged (w : Work) (s : State) (t u : ThreadId) (answer : PrioAnswer) : Type 0 where
  pub request : (r : Request) × (op_of w t.0 (thread_of s t.0).body ≡ Some (op.Prio u r))
  pub thread : IsThread s u
  pub put : IsPrioPut s answer
  pub unmoved : IsUnmoved (thread_of s u.0).place answer
  pub running : RunsThere s u

pub record CanBeBound (s : State) (u : ThreadId) (d : Option CpuId) (answer : BindAnswer) : Type 0 where
  pub thread : IsThread s u
  pub cpu : IfSome d (λ e. e.0 < length s.cpus)
  pub put : IsBindPut s answer
  pub bound : CanBind s d answer
  pub unbound : CanUnbind s u d answer
  pub before : IfSome (thread_of s u.0).body.bound (λ b. b.0 < length s.cpus)
  pub running : RunsThere s u

-- One need, of the state before the event and of the processor that makes it.

pub data Need : Type 0 where
  -- what is there
  Thread : ThreadId → Need
  Lock : LockId → Need
  Chan : ChanId → Need
  Cpu : CpuId → Need
  Set : SetId → Need
  SetOf : CpuId → Need
  At : Put → Need
  AtIf : Option Put → Need
  Woken : Option (ThreadId × Put) → Need
  PlaceOf : ThreadId → Need
  -- who runs
  Acts : ThreadId → Need
  Stays : ThreadId → Need
  Nobody : Need
  -- room, and numbers that fit
  Ticks : Need
  Naps : ThreadId → Need
  Holds : ThreadId → LockId → Need
  ReadsMore : LockId → Need
  Inherits : ThreadId → LockId → Need
  Receives : ThreadId → LockId → Need
  Ages : ThreadId → Need
  Counts : ChanId → Need
  JoinsSet : SetId → Need
  -- threads that others change
  IsChanged : ThreadId → ThreadId → PrioAnswer → Need
  IsBound : ThreadId → Option CpuId → BindAnswer → Need

abbrev pub Met : Work → State → CpuId → Need → Type 0
Met w s c (Thread t) = IsThread s t
Met w s c (Lock l) = IsLock s l
Met w s c (Chan k) = IsChan s k
Met w s c (Cpu d) = IsCpu s d
Met w s c (Set p) = IsSet s p
Met w s c (SetOf d) = IsSet s (cpu_of s d.0).set
Met w s c (At at) = IsPut s at
Met w s c (AtIf at) = IsPutIf s at
Met w s c (Woken u) = IsWoken s u
Met w s c (PlaceOf t) = RunsThere s t
Met w s c (Acts t) = CanAct w s t c
Met w s c (Stays t) = Runs s t c
Met w s c Nobody = RunsNobody s c
Met w s c Ticks = CanTick w s c
Met w s c (Naps t) = CanNap w s t c
Met w s c (Holds t l) = CanHold s t l
Met w s c (ReadsMore l) = more_fits (lock_of s l.0) ≡ true
Met w s c (Inherits o l) = CanInherit s o l (greatest_waiting l.0 s.threads)
Met w s c (Receives u l) = CanReceive w s u l
Met w s c (Ages t) = t.0 + 1 < 2 ^ 16
Met w s c (Counts k) = CanCount s k
Met w s c (JoinsSet p) = CanJoin s p
Met w s c (IsChanged t u answer) = CanBeChanged w s t u answer
Met w s c (IsBound u d answer) = CanBeBound s u d answer

-- all of them, as one product of up to five, and of the others behind them
abbrev pub AllMet : Work → State → CpuId → List Need → Type 0
AllMet w s c [] = ⊤
AllMet w s c (a ∷ []) = Met w s c a
AllMet w s c (a ∷ b ∷ []) = Met w s c a × Met w s c b
AllMet w s c (a ∷ b ∷ d ∷ []) = Met w s c a × Met w s c b × Met w s c d
AllMet w s c (a ∷ b ∷ d ∷ e ∷ []) = Met w s c a × Met w s c b × Met w s c d × Met w s c e
AllMet w s c (a ∷ b ∷ d ∷ e ∷ f ∷ []) = Met w s c a × Met w s c b × Met w s c d × Met w s c e × Met w s c f
AllMet w s c (a ∷ b ∷ d ∷ e ∷ f ∷ g ∷ rest) = Met w s c a × Met w s c b × Met w s c d × Met w s c e × Met w s c f × AllMet w s c (g ∷ rest)

-- The table.

abbrev pub asks : Event → List Need
asks (Tick t) = Acts t ∷ Ticks ∷ []
asks (Spin t l) = Stays t ∷ Lock l ∷ Ticks ∷ []
asks Idle = Ticks ∷ []
asks (Dispatch t p) = Thread t ∷ Nobody ∷ []
asks (Steal v t p) = Thread t ∷ Nobody ∷ Cpu v ∷ []
asks (Preempt t end) = Stays t ∷ []
asks (Away t d) = Stays t ∷ Cpu d ∷ []
asks (Yield t) = Acts t ∷ []
asks (Done t) = Stays t ∷ []
asks (Nap t) = Acts t ∷ Naps t ∷ []
asks (Napend t at) = Thread t ∷ At at ∷ []
asks (Sleep t k) = Acts t ∷ Chan k ∷ []
asks (Wake t k u) = Acts t ∷ Chan k ∷ Woken u ∷ []
asks (Wakeall t k) = Acts t ∷ Chan k ∷ []
asks (Rouse k u) = Chan k ∷ Woken u ∷ []
asks (Enter t l) = Acts t ∷ Lock l ∷ Holds t l ∷ []
asks (Read t l) = Acts t ∷ Lock l ∷ Holds t l ∷ ReadsMore l ∷ []
asks (Write t l) = Acts t ∷ Lock l ∷ Holds t l ∷ []
asks (Block t l) = Stays t ∷ Lock l ∷ []
asks (Will l o p at) = Thread o ∷ Lock l ∷ Inherits o l ∷ AtIf at ∷ PlaceOf o ∷ []
asks (End l) = Lock l ∷ []
asks (Exit t l) = Acts t ∷ Lock l ∷ []
asks (Unblock l u at) = Thread u ∷ Lock l ∷ At at ∷ []
asks (Grant l u at) = Lock l ∷ At at ∷ Receives u l ∷ []
asks (Passed l) = Lock l ∷ []
asks (Age t p) = Thread t ∷ Ages t ∷ []
asks (Prio t u answer) = Acts t ∷ IsChanged t u answer ∷ []
asks (CvWait t k l) = Acts t ∷ Chan k ∷ Lock l ∷ []
asks (SemaP t k) = Acts t ∷ Chan k ∷ []
asks (SemaWait t k) = Acts t ∷ Chan k ∷ []
asks (SemaVWake t k u at) = Acts t ∷ Chan k ∷ Thread u ∷ At at ∷ []
asks (SemaVCount t k m) = Acts t ∷ Chan k ∷ Counts k ∷ []
asks (Assign t d to answer) = Acts t ∷ Cpu d ∷ Set to ∷ SetOf d ∷ []
asks (Move t at) = Thread t ∷ At at ∷ []
asks (Joined to) = Set to ∷ JoinsSet to ∷ []
asks (Bind t u d answer) = Acts t ∷ IsBound u d answer ∷ []

-- The same as a product by cases, which computes to the product of that list.
abbrev pub Needs : Work → State → CpuId → Event → Type 0
Needs w s c (Tick t) = CanAct w s t c × CanTick w s c
Needs w s c (Spin t l) = Runs s t c × IsLock s l × CanTick w s c
Needs w s c Idle = CanTick w s c
Needs w s c (Dispatch t p) = IsThread s t × RunsNobody s c
Needs w s c (Steal v t p) = IsThread s t × RunsNobody s c × IsCpu s v
Needs w s c (Preempt t end) = Runs s t c
Needs w s c (Away t d) = Runs s t c × IsCpu s d
Needs w s c (Yield t) = CanAct w s t c
Needs w s c (Done t) = Runs s t c
Needs w s c (Nap t) = CanAct w s t c × CanNap w s t c
Needs w s c (Napend t at) = IsThread s t × IsPut s at
Needs w s c (Sleep t k) = CanAct w s t c × IsChan s k
Needs w s c (Wake t k u) = CanAct w s t c × IsChan s k × IsWoken s u
Needs w s c (Wakeall t k) = CanAct w s t c × IsChan s k
Needs w s c (Rouse k u) = IsChan s k × IsWoken s u
Needs w s c (Enter t l) = CanAct w s t c × IsLock s l × CanHold s t l
Needs w s c (Read t l) = CanAct w s t c × IsLock s l × CanHold s t l × (more_fits (lock_of s l.0) ≡ true)
Needs w s c (Write t l) = CanAct w s t c × IsLock s l × CanHold s t l
Needs w s c (Block t l) = Runs s t c × IsLock s l
Needs w s c (Will l o p at) = IsThread s o × IsLock s l × CanInherit s o l (greatest_waiting l.0 s.threads) × IsPutIf s at × RunsThere s o
Needs w s c (End l) = IsLock s l
Needs w s c (Exit t l) = CanAct w s t c × IsLock s l
Needs w s c (Unblock l u at) = IsThread s u × IsLock s l × IsPut s at
Needs w s c (Grant l u at) = IsLock s l × IsPut s at × CanReceive w s u l
Needs w s c (Passed l) = IsLock s l
Needs w s c (Age t p) = IsThread s t × (t.0 + 1 < 2 ^ 16)
Needs w s c (Prio t u answer) = CanAct w s t c × CanBeChanged w s t u answer
Needs w s c (CvWait t k l) = CanAct w s t c × IsChan s k × IsLock s l
Needs w s c (SemaP t k) = CanAct w s t c × IsChan s k
Needs w s c (SemaWait t k) = CanAct w s t c × IsChan s k
Needs w s c (SemaVWake t k u at) = CanAct w s t c × IsChan s k × IsThread s u × IsPut s at
Needs w s c (SemaVCount t k m) = CanAct w s t c × IsChan s k × CanCount s k
Needs w s c (Assign t d to answer) = CanAct w s t c × IsCpu s d × IsSet s to × IsSet s (cpu_of s d.0).set
Needs w s c (Move t at) = IsThread s t × IsPut s at
Needs w s c (Joined to) = IsSet s to × CanJoin s to
Needs w s c (Bind t u d answer) = CanAct w s t c × CanBeBound s u d answer
