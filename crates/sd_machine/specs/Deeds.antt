-- What each event is made of: deeds, one after another. A deed names threads, locks and the like, and nothing of a state; what it
-- depends on it finds in the state in which it is done. So what is said of every deed is said of every event, also of two states at once.
use Rattle.std.specs.Prelude.{ℕ, Bool, true, ◌+◌, ◌-◌, List, [], ◌∷◌, Option, Some, None, is_none, if◌then◌else◌}
use Rattle.std.specs.List.{list_all}
use Rattle.sd_types.specs.declared.numbers.ChanId.{ChanId}
use Rattle.sd_types.specs.declared.numbers.CpuId.{CpuId}
use Rattle.sd_types.specs.declared.numbers.LockId.{LockId}
use Rattle.sd_types.specs.declared.numbers.SetId.{SetId}
use Rattle.sd_types.specs.declared.numbers.ThreadId.{ThreadId}
use Rattle.sd_types.specs.declared.events.AssignAnswer.{AssignAnswer}
use Rattle.sd_types.specs.declared.events.AssignAnswer.TheVariants as assign
use Rattle.sd_types.specs.declared.events.BindAnswer.{BindAnswer}
use Rattle.sd_types.specs.declared.events.BindAnswer.TheVariants as bind_answer
use Rattle.sd_types.specs.declared.events.Duty.TheVariants as duty
use Rattle.sd_types.specs.declared.events.End.{End}
use Rattle.sd_types.specs.declared.events.Event.{Event}
use Rattle.sd_types.specs.declared.events.Event.TheVariants.{Tick, Spin, Idle, Dispatch, Steal, Preempt, Yield, Done, Nap, Napend, Sleep, Wake, Wakeall, Rouse, Enter, Read, Write, Block, Will, End as WalkEnd, Exit, Unblock, Grant, Passed, Age, Prio, CvWait, SemaP, SemaWait, SemaVWake, SemaVCount, Assign, Move, Joined, Bind, Away}
use Rattle.sd_types.specs.declared.events.PrioAnswer.{PrioAnswer}
use Rattle.sd_types.specs.declared.events.PrioAnswer.TheVariants.{Changed, Refused}
use Rattle.sd_types.specs.declared.events.Put.{Put}
use Rattle.sd_types.specs.declared.works.Work.{Work}
use Rattle.sd_state.specs.declared.states.Place.{Place}
use Rattle.sd_state.specs.declared.states.Place.TheVariants.{Waiting, Asleep, Napping, Ended}
use Rattle.sd_state.specs.declared.states.LockState.TheVariants.{Owned}
use Rattle.sd_state.specs.declared.states.State.{State}
use Rattle.sd_state.specs.States.{thread_of, cpu_of}
use Rattle.sd_state.specs.Operations.{op_of}
use Rattle.sd_machine.specs.Threads.{thread_id, lock_of, with_lock, count_of, with_count, runner, best_sleeper, has_waiters}
use Rattle.sd_machine.specs.Changes.{back_key, finish_op, run_tick, hold, let_go, set_duty, count_tick, clear_marks, remark, run_on, leave, queue_place, put, put_where, close, join}
use Rattle.sd_machine.specs.Dispatching.{class_counts, preempted, sent_away}
use Rattle.sd_machine.specs.Sleeping.{woken, nap_ticks, roused}
use Rattle.sd_machine.specs.Locking.{one_more, side_of, release_from, unblocked_on, granted, passed}
use Rattle.sd_machine.specs.Walking.{willed}
use Rattle.sd_machine.specs.Prioritising.{changed_on, aged}
use Rattle.sd_machine.specs.SetChanges.{cleared, rebound}

-- where a thread goes that leaves the acting processor
pub data Whither : Type 0 where
  ToQueue : Whither
  ToSleep : ChanId → Whither
  ToWait : LockId → Whither
  ToNap : Whither
  ToEnd : Whither

pub data Deed : Type 0 where
  -- a tick of the acting processor; of the operation; of the class
  CountsTick : Deed
  RunsTick : ℕ → Deed
  CountsClass : ℕ → Deed
  -- marks
  ClearsMarks : Deed
  LooksAgain : Deed
  -- a thread comes to the acting processor, or leaves it
  ComesHere : ℕ → Deed
  GoesTo : ℕ → Whither → Deed
  GoesBack : ℕ → End → Deed
  GoesAway : ℕ → CpuId → Deed
  -- a thread is made runnable
  WakesUp : ℕ → Put → Deed
  WakesIf : Option (ThreadId × Put) → Deed
  PutsThread : ℕ → Put → Deed
  -- its operation is over
  EndsOp : ℕ → Deed
  -- locks
  TakesLock : ℕ → LockId → Deed
  ReadsLock : LockId → Deed
  HoldsLock : ℕ → LockId → Deed
  FreesLock : LockId → Deed
  LetsGo : ℕ → LockId → Deed
  FreesLast : LockId → Deed
  GrantsLock : LockId → ℕ → Put → Deed
  PassesLock : LockId → Deed
  -- duties
  BeginsWalk : ℕ → LockId → Deed
  WalksOn : LockId → ThreadId → Option Put → Deed
  EndsDuty : Deed
  OrdersWake : ChanId → Deed
  Rouses : ChanId → Option (ThreadId × Put) → Deed
  -- classes
  Lifts : ℕ → Deed
  Reclasses : ℕ → ThreadId → PrioAnswer → Deed
  -- the count of a semaphore
  TakesOne : ChanId → Deed
  CountsOne : ChanId → Deed
  -- sets and bindings
  MovesCpu : CpuId → SetId → AssignAnswer → Deed
  JoinsSet : SetId → Deed
  BindsThread : ℕ → Option CpuId → BindAnswer → Deed

abbrev pub place_to : Work → ℕ → CpuId → State → ℕ → Whither → Place
place_to w n c s t ToQueue = queue_place w t c (back_key n) (thread_of s t).body
place_to w n c s t (ToSleep k) = Asleep k (back_key n)
place_to w n c s t (ToWait l) = Waiting l (side_of (op_of w t (thread_of s t).body)) (back_key n)
place_to w n c s t ToNap = Napping c ((cpu_of s c.0).count + nap_ticks (op_of w t (thread_of s t).body))
place_to w n c s t ToEnd = Ended

abbrev pub reclassed : Work → State → ℕ → CpuId → ℕ → ThreadId → PrioAnswer → State
reclassed w s n c t u (Changed p at) = changed_on w s n c t u at (op_of w t (thread_of s t).body)
reclassed w s n c t u (Refused denied) = s

abbrev pub moved_cpu : State → CpuId → SetId → AssignAnswer → State
moved_cpu s d to assign.Changed = cleared (close s d to) d (runner s d.0)
moved_cpu s d to _ = s

abbrev pub bound_to : Work → State → ℕ → ℕ → Option CpuId → BindAnswer → State
bound_to w s n u d (bind_answer.Changed at) = put_where w (rebound s u d (thread_of s u).body.bound) n u at
bound_to w s n u d _ = s

abbrev pub woken_if : Work → State → ℕ → Option (ThreadId × Put) → State
woken_if w s n None = s
woken_if w s n (Some u) = woken w s n u.0.0 u.1

-- what a deed of processor c in entry n makes of a state
abbrev pub did : Work → ℕ → CpuId → State → Deed → State
did w n c s CountsTick = count_tick w s c.0
did w n c s (RunsTick t) = run_tick w s t
did w n c s (CountsClass t) = class_counts w s c.0 t
did w n c s ClearsMarks = clear_marks s c.0
did w n c s LooksAgain = remark s c.0
did w n c s (ComesHere t) = run_on s t c
did w n c s (GoesTo t whither) = leave s c.0 t (place_to w n c s t whither)
did w n c s (GoesBack t end) = preempted w s n c t end
did w n c s (GoesAway t d) = sent_away s n c t d
did w n c s (WakesUp t at) = woken w s n t at
did w n c s (WakesIf u) = woken_if w s n u
did w n c s (PutsThread t at) = put w s n t at
did w n c s (EndsOp t) = finish_op w s t
did w n c s (TakesLock t l) = with_lock s l.0 (Owned (thread_id t))
did w n c s (ReadsLock l) = with_lock s l.0 (one_more (lock_of s l.0))
did w n c s (HoldsLock t l) = hold s t l
did w n c s (FreesLock l) = release_from w s c l (lock_of s l.0)
did w n c s (LetsGo t l) = let_go s t l
did w n c s (FreesLast l) = unblocked_on s c l (has_waiters s l.0)
did w n c s (GrantsLock l u at) = granted w s n c l u at (cpu_of s c.0).duty
did w n c s (PassesLock l) = passed s c l
did w n c s (BeginsWalk t l) = set_duty s c.0 (duty.Walk l (thread_id t) (back_key n))
did w n c s (WalksOn l o at) = willed w s n c l o at
did w n c s EndsDuty = set_duty s c.0 duty.Nothing
did w n c s (OrdersWake k) = if is_none (best_sleeper s k.0) then s else set_duty s c.0 (duty.Rouse k (back_key n))
did w n c s (Rouses k u) = roused w s n c k u (cpu_of s c.0).duty
did w n c s (Lifts t) = aged w s n c t
did w n c s (Reclasses t u answer) = reclassed w s n c t u answer
did w n c s (TakesOne k) = with_count s k.0 (count_of s k.0 - 1)
did w n c s (CountsOne k) = with_count s k.0 (count_of s k.0 + 1)
did w n c s (MovesCpu d to answer) = moved_cpu s d to answer
did w n c s (JoinsSet to) = join s c to
did w n c s (BindsThread u d answer) = bound_to w s n u d answer

abbrev pub all_did : Work → ℕ → CpuId → State → List Deed → State
all_did w n c s [] = s
all_did w n c s (d ∷ ds) = all_did w n c (did w n c s d) ds

abbrev pub deeds : Event → List Deed
deeds (Tick t) = CountsTick ∷ RunsTick t.0 ∷ CountsClass t.0 ∷ []
deeds (Spin t l) = CountsTick ∷ CountsClass t.0 ∷ []
deeds Idle = CountsTick ∷ []
deeds (Dispatch t p) = ClearsMarks ∷ ComesHere t.0 ∷ []
deeds (Steal v t p) = ComesHere t.0 ∷ []
deeds (Preempt t end) = GoesBack t.0 end ∷ []
deeds (Away t d) = GoesAway t.0 d ∷ []
deeds (Yield t) = GoesTo t.0 ToQueue ∷ EndsOp t.0 ∷ []
deeds (Done t) = GoesTo t.0 ToEnd ∷ []
deeds (Nap t) = GoesTo t.0 ToNap ∷ EndsOp t.0 ∷ []
deeds (Napend t at) = WakesUp t.0 at ∷ []
deeds (Sleep t k) = GoesTo t.0 (ToSleep k) ∷ EndsOp t.0 ∷ []
deeds (Wake t k u) = WakesIf u ∷ EndsOp t.0 ∷ []
deeds (Wakeall t k) = OrdersWake k ∷ EndsOp t.0 ∷ []
deeds (Rouse k u) = Rouses k u ∷ []
deeds (Enter t l) = TakesLock t.0 l ∷ HoldsLock t.0 l ∷ EndsOp t.0 ∷ []
deeds (Read t l) = ReadsLock l ∷ HoldsLock t.0 l ∷ EndsOp t.0 ∷ []
deeds (Write t l) = TakesLock t.0 l ∷ HoldsLock t.0 l ∷ EndsOp t.0 ∷ []
deeds (Block t l) = GoesTo t.0 (ToWait l) ∷ BeginsWalk t.0 l ∷ []
deeds (Will l o p at) = WalksOn l o at ∷ []
deeds (WalkEnd l) = EndsDuty ∷ []
deeds (Exit t l) = FreesLock l ∷ LetsGo t.0 l ∷ EndsOp t.0 ∷ LooksAgain ∷ []
deeds (Unblock l u at) = WakesUp u.0 at ∷ FreesLast l ∷ []
deeds (Grant l u at) = GrantsLock l u.0 at ∷ []
deeds (Passed l) = PassesLock l ∷ []
deeds (Age t p) = Lifts t.0 ∷ []
deeds (Prio t u answer) = Reclasses t.0 u answer ∷ EndsOp t.0 ∷ []
deeds (CvWait t k l) = FreesLock l ∷ LetsGo t.0 l ∷ GoesTo t.0 (ToSleep k) ∷ EndsOp t.0 ∷ []
deeds (SemaP t k) = TakesOne k ∷ EndsOp t.0 ∷ []
deeds (SemaWait t k) = GoesTo t.0 (ToSleep k) ∷ EndsOp t.0 ∷ []
deeds (SemaVWake t k u at) = WakesUp u.0 at ∷ EndsOp t.0 ∷ []
deeds (SemaVCount t k m) = CountsOne k ∷ EndsOp t.0 ∷ []
deeds (Assign t d to answer) = MovesCpu d to answer ∷ EndsOp t.0 ∷ []
deeds (Move t at) = PutsThread t.0 at ∷ []
deeds (Joined to) = JoinsSet to ∷ []
deeds (Bind t u d answer) = BindsThread u.0 d answer ∷ EndsOp t.0 ∷ []

-- What an event does of one kind: what its first deed of that kind does; and whether it has one such deed at most.

abbrev pub or_first : {X : Type 0} → Option X → Option X → Option X
or_first None later = later
or_first (Some x) later = Some x

abbrev pub first : {X : Type 0} → (Deed → Option X) → List Deed → Option X
first f [] = None
first f (d ∷ ds) = or_first (f d) (first f ds)

abbrev pub at_most_one : {X : Type 0} → (Deed → Option X) → List Deed → Bool
at_most_one f [] = true
at_most_one f (d ∷ ds) = if is_none (f d) then at_most_one f ds else list_all (λ x. is_none (f x)) ds
