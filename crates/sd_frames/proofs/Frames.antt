-- What the words and the events of the machine leave alone, once for every part of a state that may be looked at: of any relation
-- between a state and a later one that single changes of a thread, a processor, a lock, a count and an open list keep.
--
-- For example, "the locks are as they were" is kept by every change of a thread and of a processor, so it is kept by each event that
-- writes no lock; "each class state is in its range" is kept by what the classes make of it, so it is kept by every event.
use Rattle.std.proofs.Common.{◌≡◌, ℕ, ◌-◌, Bool, true, false, List, Option, Some, None, refl, sym, subst}
use Rattle.std.specs.Prelude.{if◌then◌else◌, Result, Ok, Err, is_some, nat_lt, nat_le, ◌==◌, ⊤}
use Rattle.sd_types.specs.declared.numbers.ChanId.{ChanId}
use Rattle.sd_types.specs.declared.numbers.CpuId.{CpuId}
use Rattle.sd_types.specs.declared.numbers.LockId.{LockId}
use Rattle.sd_types.specs.declared.numbers.SetId.{SetId}
use Rattle.sd_types.specs.declared.numbers.Side.TheVariants.{Writer}
use Rattle.sd_types.specs.declared.numbers.ThreadId.{ThreadId}
use Rattle.sd_types.specs.declared.bodies.ThreadBody.{ThreadBody}
use Rattle.sd_types.specs.declared.classes.ClassParms.{ClassParms}
use Rattle.sd_types.specs.declared.events.AssignAnswer.TheVariants as assign
use Rattle.sd_types.specs.declared.events.BindAnswer.TheVariants as bind_answer
use Rattle.sd_types.specs.declared.events.Denied.{Denied}
use Rattle.sd_types.specs.declared.events.Duty.{Duty}
use Rattle.sd_types.specs.declared.events.Duty.TheVariants as duty
use Rattle.sd_types.specs.declared.events.End.{End}
use Rattle.sd_types.specs.declared.events.Event.{Event}
use Rattle.sd_types.specs.declared.events.Event.TheVariants.{Tick}
use Rattle.sd_types.specs.declared.events.PrioAnswer.TheVariants.{Changed, Refused}
use Rattle.sd_types.specs.declared.events.Put.{Put}
use Rattle.sd_types.specs.declared.scripts.Op.{Op}
use Rattle.sd_types.specs.declared.scripts.Op.TheVariants as op
use Rattle.sd_types.specs.declared.scripts.Request.{Request}
use Rattle.sd_types.specs.declared.works.Work.{Work}
use Rattle.sd_state.specs.declared.states.Place.{Place}
use Rattle.sd_state.specs.declared.states.Place.TheVariants.{Running, Waiting}
use Rattle.sd_state.specs.declared.states.LockState.{LockState}
use Rattle.sd_state.specs.declared.states.LockState.TheVariants.{Free, Owned, ReadHeld, Passing}
use Rattle.sd_state.specs.declared.states.ThreadState.{ThreadState}
use Rattle.sd_state.specs.declared.states.State.{State}
use Rattle.sd_state.specs.States.{thread_of, cpu_of, with_thread, with_cpu, eff_of}
use Rattle.sd_state.specs.Operations.{script_of, op_of, op_over, ran}
use Rattle.sd_machine.specs.Threads.{lock_of, with_lock, with_count, best_waiter, has_waiters}
use Rattle.sd_machine.specs.Bodies.{ticked_class, woken_class, aged_class}
use Rattle.sd_rules.specs.ClassRules.{class_requeue}
use Rattle.sd_machine.specs.Changes.{finish_op, run_tick, set_class, send_back, hold, let_go, set_number, set_looped, set_duty, count_tick, clear_marks, set_mark, set_kernel_mark, mark_over, remark, run_on, leave, put, put_where, close, join, bind, unbind}
use Rattle.sd_machine.specs.Dispatching.{charge, class_counts, preempted, sent_away}
use Rattle.sd_machine.specs.Sleeping.{woken, fallen_asleep, roused_on, roused}
use Rattle.sd_machine.specs.Locking.{free_or_passed, release_from, unblocked_on, granted_to_writer, granted_to_reader, granted, passed_on, passed}
use Rattle.sd_machine.specs.Requeueing.{reordered_at, reordered}
use Rattle.sd_machine.specs.Walking.{willed}
use Rattle.sd_machine.specs.Prioritising.{answer_to, new_class, walk_from, changed_by, changed_on, lifted, aged}
use Rattle.sd_machine.specs.SetChanges.{cleared, called_back, rebound}
use Rattle.sd_machine.specs.Events.{drop_ageing, effect, after}
use Rattle.sd_machine.specs.Deeds.{Deed, CountsTick, RunsTick, CountsClass, ClearsMarks, LooksAgain, ComesHere, GoesTo, GoesBack, GoesAway, WakesUp, WakesIf, PutsThread, EndsOp, TakesLock, ReadsLock, HoldsLock, FreesLock, LetsGo, FreesLast, GrantsLock, PassesLock, BeginsWalk, WalksOn, EndsDuty, OrdersWake, Rouses, Lifts, Reclasses, TakesOne, CountsOne, MovesCpu, JoinsSet, BindsThread, did, all_did, deeds, first, at_most_one}
use Rattle.sd_machine.proofs.DeedLemmas.{effect_did, none_first, one_first}

-- a relation that joins, and is kept by what most events change: threads, marks and duties
pub record IsFrame (w : Work) (R : State → State → Type 0) : Type 0 where
  pub stays : (s : State) → R s s
  pub joins : (s r q : State) → R s r → R r q → R s q
  -- a thread whose class state stays
  pub thread : (s : State) (t : ℕ) (x : ThreadState) → x.body.class ≡ (thread_of s t).body.class → R s (with_thread s t x)
  -- what the classes make of a class state
  pub ticks : (s : State) (t : ℕ) → R s (set_class s t (ticked_class w (thread_of s t).body.class))
  pub wakes : (s : State) (t : ℕ) → R s (set_class s t (woken_class w (thread_of s t).body.class))
  pub ages : (s : State) (t : ℕ) → R s (set_class s t (aged_class w (thread_of s t).body.class))
  pub requeues : (s : State) (t : ℕ) (b : Bool) → R s (set_class s t (class_requeue b (thread_of s t).body.class))
  pub enters : (s : State) (t u : ℕ) (r : Request) (p : ClassParms) → answer_to w s t u r ≡ Ok p → R s (set_class s u (new_class w s u p))
  -- a processor's marks, and its duty
  pub marks : (s : State) (c : ℕ) (u k : Bool) → R s (with_cpu s c (record (cpu_of s c) { user = u; kernel = k }))
  pub duty : (s : State) (c : ℕ) (d : Duty) → R s (with_cpu s c (record (cpu_of s c) { duty = d }))

-- What few events change besides.

pub record KeepsLocks (R : State → State → Type 0) : Type 0 where
  pub lock : (s : State) (l : ℕ) (x : LockState) → R s (with_lock s l x)

pub record KeepsCounts (R : State → State → Type 0) : Type 0 where
  pub count : (s : State) (k n : ℕ) → R s (with_count s k n)

pub record KeepsTicks (w : Work) (R : State → State → Type 0) : Type 0 where
  pub tick : (s : State) (c : ℕ) → R s (count_tick w s c)

pub record KeepsSets (R : State → State → Type 0) : Type 0 where
  pub closes : (s : State) (d : CpuId) (to : SetId) → R s (close s d to)
  pub enters_set : (s : State) (c : CpuId) (to : SetId) → R s (join s c to)

pub record KeepsBindings (R : State → State → Type 0) : Type 0 where
  pub binds : (s : State) (t : ℕ) (d : CpuId) → R s (bind s t d)
  pub unbinds : (s : State) (t : ℕ) (b : CpuId) → R s (unbind s t b)

-- what an event writes besides threads, marks and duties
pub data Rest : Type 0 where
  nothing : Rest
  locks : Rest
  counts : Rest
  ticks : Rest
  sets : Rest
  bindings : Rest

abbrev pub writes : Deed → Option Rest
writes CountsTick = Some Rest.ticks
writes (TakesLock t l) = Some Rest.locks
writes (ReadsLock l) = Some Rest.locks
writes (FreesLock l) = Some Rest.locks
writes (FreesLast l) = Some Rest.locks
writes (GrantsLock l u at) = Some Rest.locks
writes (PassesLock l) = Some Rest.locks
writes (TakesOne k) = Some Rest.counts
writes (CountsOne k) = Some Rest.counts
writes (MovesCpu d to answer) = Some Rest.sets
writes (JoinsSet to) = Some Rest.sets
writes (BindsThread u d answer) = Some Rest.bindings
writes _ = None

abbrev or_nothing : Option Rest → Rest
or_nothing None = Rest.nothing
or_nothing (Some x) = x

abbrev pub rest_of : Event → Rest
rest_of e = or_nothing (first writes (deeds e))

-- no event writes two of these
writes_one : (e : Event) → at_most_one writes (deeds e) ≡ true
writes_one (Tick t) = refl
writes_one _ = refl

abbrev pub KeepsRest : Work → (State → State → Type 0) → Rest → Type 0
KeepsRest w R Rest.nothing = ⊤
KeepsRest w R Rest.locks = KeepsLocks R
KeepsRest w R Rest.counts = KeepsCounts R
KeepsRest w R Rest.ticks = KeepsTicks w R
KeepsRest w R Rest.sets = KeepsSets R
KeepsRest w R Rest.bindings = KeepsBindings R

ran_class : (b : ThreadBody) (ops : List Op) → (ran ops b).class ≡ b.class
ran_class b ops = elim (nat_le b.run_left 1) as (λ x. (if x then op_over ops b else record b { run_left = b.run_left - 1 }).class ≡ b.class) [ true ↦ refl | false ↦ refl ]

module _ (w : Work) {R : State → State → Type 0} (f : IsFrame w R) where
  either_kept : (s r q : State) (b : Bool) → R s r → R s q → R s (if b then r else q)
  either_kept s r q true x y = x
  either_kept s r q false x y = y

  -- Words that change a processor's marks and duty alone.

  pub set_duty_kept : (s : State) (c : ℕ) (d : Duty) → R s (set_duty s c d)
  unfolding set_duty
  set_duty_kept s c d = f.duty s c d

  clear_marks_kept : (s : State) (c : ℕ) → R s (clear_marks s c)
  unfolding clear_marks
  clear_marks_kept s c = f.marks s c false false

  set_mark_kept : (s : State) (c m : ℕ) → R s (set_mark s c m)
  unfolding set_mark
  set_mark_kept s c m =
      elim (nat_le 100 m) as (λ b. R s (with_cpu s c (if b then record (cpu_of s c) { kernel = true } else record (cpu_of s c) { user = true })))
      [ true ↦ f.marks s c (cpu_of s c).user true | false ↦ f.marks s c true (cpu_of s c).kernel ]

  set_kernel_mark_kept : (s : State) (c : ℕ) → R s (set_kernel_mark s c)
  unfolding set_kernel_mark
  set_kernel_mark_kept s c = f.marks s c (cpu_of s c).user true

  mark_over_kept : (s : State) (x m : ℕ) → R s (mark_over s x m)
  unfolding mark_over
  mark_over_kept s x m = either_kept s _ _ _ (set_mark_kept s x m) (f.stays s)

  pub remark_kept : (s : State) (x : ℕ) → R s (remark s x)
  unfolding remark
  remark_kept s x = either_kept s _ _ _ (set_mark_kept s x _) (f.stays s)

  pub cleared_kept : (s : State) (d : CpuId) (r : Option ℕ) → R s (cleared s d r)
  cleared_kept s d None = f.stays s
  cleared_kept s d (Some r) = set_kernel_mark_kept s d.0

  called_back_kept : (s : State) (d : CpuId) (place : Place) → R s (called_back s d place)
  called_back_kept s d (Running c) = either_kept s _ _ (c.0 == d.0) (f.stays s) (set_kernel_mark_kept s c.0)
  called_back_kept s d _ = f.stays s

  walk_from_kept : (s : State) (c : CpuId) (u : ThreadId) (place : Place) → R s (walk_from s c u place)
  walk_from_kept s c u (Waiting l side k) = set_duty_kept s c.0 _
  walk_from_kept s c u _ = f.stays s

  roused_on_kept : (s : State) (c : CpuId) (o : Option ℕ) → R s (roused_on s c o)
  roused_on_kept s c None = set_duty_kept s c.0 _
  roused_on_kept s c (Some u) = f.stays s

  -- Words that change a thread.

  pub finish_op_kept : (s : State) (t : ℕ) → R s (finish_op w s t)
  unfolding finish_op
  finish_op_kept s t = f.thread s t _ refl

  run_tick_kept : (s : State) (t : ℕ) → R s (run_tick w s t)
  unfolding run_tick
  run_tick_kept s t = f.thread s t _ (ran_class (thread_of s t).body (script_of w t))

  send_back_kept : (s : State) (t : ℕ) → R s (send_back s t)
  unfolding send_back
  send_back_kept s t = f.thread s t _ refl

  pub hold_kept : (s : State) (t : ℕ) (l : LockId) → R s (hold s t l)
  unfolding hold
  hold_kept s t l = f.thread s t _ refl

  pub let_go_kept : (s : State) (t : ℕ) (l : LockId) → R s (let_go s t l)
  unfolding let_go
  let_go_kept s t l = f.thread s t _ refl

  pub set_number_kept : (s : State) (t : ℕ) (l : LockId) (number : Option ℕ) → R s (set_number s t l number)
  unfolding set_number
  set_number_kept s t l number = f.thread s t _ refl

  set_looped_kept : (s : State) (t : ℕ) (looped : Bool) → R s (set_looped s t looped)
  unfolding set_looped
  set_looped_kept s t looped = f.thread s t _ refl

  run_on_kept : (s : State) (t : ℕ) (c : CpuId) → R s (run_on s t c)
  unfolding run_on
  run_on_kept s t c = f.thread s t _ refl

  leave_kept : (s : State) (c t : ℕ) (place : Place) → R s (leave s c t place)
  unfolding leave
  leave_kept s c t place = f.joins s _ _ (f.thread s t _ refl) (f.marks _ c false false)

  put_kept : (s : State) (n t : ℕ) (at : Put) → R s (put w s n t at)
  unfolding put
  put_kept s n t at = f.joins s _ _ (f.thread s t _ refl) (mark_over_kept _ _ _)

  put_where_kept : (s : State) (n t : ℕ) (at : Option Put) → R s (put_where w s n t at)
  unfolding put_where
  put_where_kept s n t None = f.stays s
  put_where_kept s n t (Some at) = put_kept s n t at

  charge_kept : (s : State) (c t : ℕ) (expired : Bool) → R s (charge s c t expired)
  unfolding charge
  charge_kept s c t expired = either_kept s _ _ _ (f.joins s _ _ (send_back_kept s t) (set_mark_kept _ c _)) (f.stays s)

  class_counts_kept : (s : State) (c t : ℕ) → R s (class_counts w s c t)
  class_counts_kept s c t = f.joins s _ _ (f.ticks s t) (charge_kept _ c t _)

  preempted_kept : (s : State) (n : ℕ) (c : CpuId) (t : ℕ) (end : End) → R s (preempted w s n c t end)
  unfolding preempted
  preempted_kept s n c t end = f.joins s _ _ (f.requeues s t (thread_of s t).body.back) (leave_kept _ c.0 t _)

  sent_away_kept : (s : State) (n : ℕ) (c : CpuId) (t : ℕ) (d : CpuId) → R s (sent_away s n c t d)
  unfolding sent_away
  sent_away_kept s n c t d = f.joins s _ _ (leave_kept s c.0 t _) (mark_over_kept _ d.0 _)

  pub woken_kept : (s : State) (n t : ℕ) (at : Put) → R s (woken w s n t at)
  unfolding woken
  woken_kept s n t at = f.joins s _ _ (f.wakes s t) (put_kept _ n t at)

  pub fallen_asleep_kept : (s : State) (n : ℕ) (c : CpuId) (t : ℕ) (k : ChanId) → R s (fallen_asleep w s n c t k)
  unfolding fallen_asleep
  fallen_asleep_kept s n c t k = f.joins s _ _ (leave_kept s c.0 t _) (finish_op_kept _ t)

  roused_kept : (s : State) (n : ℕ) (c : CpuId) (k : ChanId) (u : Option (ThreadId × Put)) (d : Duty) → R s (roused w s n c k u d)
  unfolding roused
  roused_kept s n c k None d = set_duty_kept s c.0 _
  roused_kept s n c k (Some u) d = f.joins s _ _ (woken_kept s n u.0.0 u.1) (roused_on_kept _ c _)

  reordered_at_kept : (s : State) (n t old : ℕ) (at : Option Put) (place : Place) → R s (reordered_at w s n t old at place)
  reordered_at_kept s n t old at (Running x) = either_kept s _ _ (nat_lt (eff_of s t) old) (remark_kept s x.0) (f.stays s)
  reordered_at_kept s n t old at _ = put_where_kept s n t at

  reordered_kept : (s : State) (n t old : ℕ) (at : Option Put) → R s (reordered w s n t old at)
  unfolding reordered
  reordered_kept s n t old at = reordered_at_kept s n t old at (thread_of s t).place

  willed_kept : (s : State) (n : ℕ) (c : CpuId) (l : LockId) (o : ThreadId) (at : Option Put) → R s (willed w s n c l o at)
  unfolding willed
  willed_kept s n c l o at = f.joins s _ _ (set_number_kept s o.0 l _) (f.joins _ _ _ (set_looped_kept _ o.0 _) (f.joins _ _ _ (set_duty_kept _ c.0 _) (reordered_kept _ n o.0 _ at)))

  changed_by_kept : (s : State) (n : ℕ) (c : CpuId) (t : ℕ) (u : ThreadId) (at : Option Put) (r : Request) (a : Result ClassParms Denied) → answer_to w s t u.0 r ≡ a → R s (changed_by w s n c u at a)
  changed_by_kept s n c t u at r (Err d) is = f.stays s
  changed_by_kept s n c t u at r (Ok parms) is = f.joins s _ _ (f.enters s t u.0 r parms is) (f.joins _ _ _ (reordered_kept _ n u.0 _ at) (walk_from_kept _ c u _))

  changed_on_kept : (s : State) (n : ℕ) (c : CpuId) (t : ℕ) (u : ThreadId) (at : Option Put) (o : Option Op) → R s (changed_on w s n c t u at o)
  changed_on_kept s n c t u at (Some (op.Prio v r)) = changed_by_kept s n c t u at r (answer_to w s t u.0 r) refl
  changed_on_kept s n c t u at _ = f.stays s

  lifted_kept : (s : State) (n : ℕ) (c : CpuId) (t old : ℕ) → R s (lifted w s n c t old)
  lifted_kept s n c t old = either_kept s _ _ (eff_of s t == old) (f.stays s) (put_kept s n t _)

  aged_kept : (s : State) (n : ℕ) (c : CpuId) (t : ℕ) → R s (aged w s n c t)
  unfolding aged
  aged_kept s n c t = f.joins s _ _ (f.ages s t) (f.joins _ _ _ (lifted_kept _ n c t _) (set_duty_kept _ c.0 _))

  -- Words that change locks.

  module _ (m : KeepsLocks R) where
    lock_duty_kept : (s : State) (c l : ℕ) (x : LockState) (d : Duty) → R s (set_duty (with_lock s l x) c d)
    lock_duty_kept s c l x d = f.joins s _ _ (m.lock s l x) (set_duty_kept _ c d)

    free_or_passed_kept : (s : State) (c : CpuId) (l : LockId) (d : Duty) → R s (free_or_passed s c l d)
    free_or_passed_kept s c l d = either_kept s _ _ (has_waiters s l.0) (lock_duty_kept s c.0 l.0 (Passing c 0) d) (m.lock s l.0 Free)

    release_from_kept : (s : State) (c : CpuId) (l : LockId) (x : LockState) → R s (release_from w s c l x)
    release_from_kept s c l Free = f.stays s
    release_from_kept s c l (Owned o) = free_or_passed_kept s c l _
    release_from_kept s c l (ReadHeld n) = either_kept s _ _ (nat_le n 1) (free_or_passed_kept s c l _) (m.lock s l.0 _)
    release_from_kept s c l (Passing d r) = m.lock s l.0 _

    unblocked_on_kept : (s : State) (c : CpuId) (l : LockId) (b : Bool) → R s (unblocked_on s c l b)
    unblocked_on_kept s c l true = f.stays s
    unblocked_on_kept s c l false = lock_duty_kept s c.0 l.0 Free _

    granted_to_writer_kept : (s : State) (n : ℕ) (c : CpuId) (l : LockId) (u : ℕ) (at : Put) → R s (granted_to_writer w s n c l u at)
    unfolding granted_to_writer
    granted_to_writer_kept s n c l u at =
        f.joins s _ _ (m.lock s l.0 _)
        (f.joins _ _ _ (hold_kept _ u l)
        (f.joins _ _ _ (finish_op_kept _ u) (f.joins _ _ _ (set_number_kept _ u l _) (f.joins _ _ _ (woken_kept _ n u at) (set_duty_kept _ c.0 _)))))

    granted_to_reader_kept : (s : State) (n : ℕ) (l : LockId) (u : ℕ) (at : Put) → R s (granted_to_reader w s n l u at)
    unfolding granted_to_reader
    granted_to_reader_kept s n l u at = f.joins s _ _ (m.lock s l.0 _) (f.joins _ _ _ (hold_kept _ u l) (f.joins _ _ _ (finish_op_kept _ u) (woken_kept _ n u at)))

    granted_kept : (s : State) (n : ℕ) (c : CpuId) (l : LockId) (u : ℕ) (at : Put) (d : Duty) → R s (granted w s n c l u at d)
    granted_kept s n c l u at (duty.GrantWriter j) = granted_to_writer_kept s n c l u at
    granted_kept s n c l u at _ = granted_to_reader_kept s n l u at

    passed_on_kept : (s : State) (c : CpuId) (l : LockId) (x : LockState) → R s (passed_on s c l x)
    passed_on_kept s c l (Passing d r) =
        either_kept s _ _ (nat_lt 0 r) (lock_duty_kept s c.0 l.0 (ReadHeld r) _)
        (either_kept s _ _ (is_some (best_waiter s l.0 Writer)) (set_duty_kept s c.0 _) (lock_duty_kept s c.0 l.0 Free _))
    passed_on_kept s c l _ = set_duty_kept s c.0 _

    passed_kept : (s : State) (c : CpuId) (l : LockId) → R s (passed s c l)
    unfolding passed
    passed_kept s c l = passed_on_kept s c l (lock_of s l.0)

  -- Words that change counts of channels, ticks, sets and bindings.

  rebound_kept : KeepsBindings R → (s : State) (u : ℕ) (d b : Option CpuId) → R s (rebound s u d b)
  rebound_kept m s u (Some d) b = f.joins s _ _ (m.binds s u d) (called_back_kept _ d _)
  rebound_kept m s u None (Some b) = m.unbinds s u b
  rebound_kept m s u None None = f.stays s

  -- Events.

  deed_kept : (n : ℕ) (c : CpuId) (s : State) (d : Deed) → writes d ≡ None → R s (did w n c s d)
  deed_kept n c s (RunsTick t) quiet = run_tick_kept s t
  deed_kept n c s (CountsClass t) quiet = class_counts_kept s c.0 t
  deed_kept n c s ClearsMarks quiet = clear_marks_kept s c.0
  deed_kept n c s LooksAgain quiet = remark_kept s c.0
  deed_kept n c s (ComesHere t) quiet = run_on_kept s t c
  deed_kept n c s (GoesTo t whither) quiet = leave_kept s c.0 t _
  deed_kept n c s (GoesBack t end) quiet = preempted_kept s n c t end
  deed_kept n c s (GoesAway t d) quiet = sent_away_kept s n c t d
  deed_kept n c s (WakesUp t at) quiet = woken_kept s n t at
  deed_kept n c s (WakesIf None) quiet = f.stays s
  deed_kept n c s (WakesIf (Some u)) quiet = woken_kept s n u.0.0 u.1
  deed_kept n c s (PutsThread t at) quiet = put_kept s n t at
  deed_kept n c s (EndsOp t) quiet = finish_op_kept s t
  deed_kept n c s (HoldsLock t l) quiet = hold_kept s t l
  deed_kept n c s (LetsGo t l) quiet = let_go_kept s t l
  deed_kept n c s (BeginsWalk t l) quiet = set_duty_kept s c.0 _
  deed_kept n c s (WalksOn l o at) quiet = willed_kept s n c l o at
  deed_kept n c s EndsDuty quiet = set_duty_kept s c.0 _
  deed_kept n c s (OrdersWake k) quiet = either_kept s _ _ _ (f.stays s) (set_duty_kept s c.0 _)
  deed_kept n c s (Rouses k u) quiet = roused_kept s n c k u (cpu_of s c.0).duty
  deed_kept n c s (Lifts t) quiet = aged_kept s n c t
  deed_kept n c s (Reclasses t u (Changed p at)) quiet = changed_on_kept s n c t u at (op_of w t (thread_of s t).body)
  deed_kept n c s (Reclasses t u (Refused denied)) quiet = f.stays s
  deed_kept n c s d quiet = cc

  written_kept : (n : ℕ) (c : CpuId) (s : State) (d : Deed) → KeepsRest w R (or_nothing (writes d)) → R s (did w n c s d)
  written_kept n c s CountsTick m = m.tick s c.0
  written_kept n c s (TakesLock t l) m = m.lock s l.0 _
  written_kept n c s (ReadsLock l) m = m.lock s l.0 _
  written_kept n c s (FreesLock l) m = release_from_kept m s c l (lock_of s l.0)
  written_kept n c s (FreesLast l) m = unblocked_on_kept m s c l _
  written_kept n c s (GrantsLock l u at) m = granted_kept m s n c l u at (cpu_of s c.0).duty
  written_kept n c s (PassesLock l) m = passed_kept m s c l
  written_kept n c s (TakesOne k) m = m.count s k.0 _
  written_kept n c s (CountsOne k) m = m.count s k.0 _
  written_kept n c s (MovesCpu d to assign.Changed) m = f.joins s _ _ (m.closes s d to) (cleared_kept _ d _)
  written_kept n c s (MovesCpu d to _) m = f.stays s
  written_kept n c s (JoinsSet to) m = m.enters_set s c to
  written_kept n c s (BindsThread u d (bind_answer.Changed at)) m = f.joins s _ _ (rebound_kept m s u d _) (put_where_kept _ n u at)
  written_kept n c s (BindsThread u d _) m = f.stays s
  written_kept n c s d m = deed_kept n c s d refl

  written : (n : ℕ) (c : CpuId) (s : State) (d : Deed) (x : Rest) → writes d ≡ Some x → KeepsRest w R x → R s (did w n c s d)
  written n c s d x is m = written_kept n c s d (subst (λ o. KeepsRest w R (or_nothing o)) (sym is) m)

  pub effect_kept : (s : State) (n : ℕ) (c : CpuId) (e : Event) → KeepsRest w R (rest_of e) → R s (effect w s n c e)
  effect_kept s n c e m = subst (λ r. R s r) (sym (effect_did w s n c e)) (by (first writes (deeds e)) refl m)
    where
      by : (o : Option Rest) → first writes (deeds e) ≡ o → KeepsRest w R (or_nothing o) → R s (all_did w n c s (deeds e))
      by None is m = none_first w n c writes {T = λ r q x. R r q} f.stays f.joins (λ r q v x. f.joins r q v) (λ r q v x. f.joins r q v) {Fit = λ r x. KeepsRest w R x} (λ r d x fit. fit) (deed_kept n c) (written n c) s (deeds e) (writes_one e) is
      by (Some x) is m = one_first w n c writes {T = λ r q x. R r q} f.stays f.joins (λ r q v x. f.joins r q v) (λ r q v x. f.joins r q v) {Fit = λ r x. KeepsRest w R x} (λ r d x fit. fit) (deed_kept n c) (written n c) s (deeds e) x (writes_one e) is m

  pub drop_kept : (s : State) (c : ℕ) (e : Event) → R s (drop_ageing s c e)
  unfolding drop_ageing
  drop_kept s c e = set_duty_kept s c _

  pub after_kept : (s : State) (n : ℕ) (c : CpuId) (e : Event) → KeepsRest w R (rest_of e) → R s (after w s n c e)
  unfolding after
  after_kept s n c e m = f.joins s _ _ (drop_kept s c.0 e) (effect_kept _ n c e m)
