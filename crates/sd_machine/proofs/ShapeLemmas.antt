-- An event keeps the numbers of threads, locks, processors, channels and sets.
use Rattle.std.proofs.Common.{◌≡◌, ℕ, Bool, true, false, refl, ◌∙◌, sym, subst, length, Option, Some, None, List}
use Rattle.std.proofs.lemmas.List.{length-set}
use Rattle.sd_types.specs.declared.numbers.ChanId.{ChanId}
use Rattle.sd_types.specs.declared.numbers.CpuId.{CpuId}
use Rattle.sd_types.specs.declared.numbers.LockId.{LockId}
use Rattle.sd_types.specs.declared.numbers.SetId.{SetId}
use Rattle.sd_types.specs.declared.numbers.ThreadId.{ThreadId}
use Rattle.sd_types.specs.declared.classes.ClassParms.{ClassParms}
use Rattle.sd_types.specs.declared.classes.ClassState.{ClassState}
use Rattle.sd_types.specs.declared.events.AssignAnswer.TheVariants as assign
use Rattle.sd_types.specs.declared.events.BindAnswer.{BindAnswer}
use Rattle.sd_types.specs.declared.events.BindAnswer.TheVariants as bind_answer
use Rattle.sd_types.specs.declared.events.Denied.{Denied}
use Rattle.sd_types.specs.declared.events.Duty.{Duty}
use Rattle.sd_types.specs.declared.events.Duty.TheVariants as duty
use Rattle.sd_types.specs.declared.events.End.{End}
use Rattle.sd_types.specs.declared.events.Event.{Event}
use Rattle.sd_types.specs.declared.events.PrioAnswer.TheVariants.{Changed, Refused}
use Rattle.sd_types.specs.declared.events.Put.{Put}
use Rattle.sd_types.specs.declared.scripts.Op.{Op}
use Rattle.sd_types.specs.declared.scripts.Op.TheVariants as op
use Rattle.sd_types.specs.declared.works.Work.{Work}
use Rattle.sd_types.specs.declared.numbers.Side.TheVariants.{Writer}
use Rattle.std.specs.Prelude.{if◌then◌else◌, Result, Ok, Err, is_some, nat_lt, nat_le, ◌==◌}
use Rattle.sd_state.specs.declared.states.Place.{Place}
use Rattle.sd_state.specs.declared.states.Place.TheVariants.{Running, Waiting}
use Rattle.sd_state.specs.declared.states.LockState.{LockState}
use Rattle.sd_state.specs.declared.states.LockState.TheVariants.{Free, Owned, ReadHeld, Passing}
use Rattle.sd_state.specs.declared.states.CpuState.{CpuState}
use Rattle.sd_state.specs.declared.states.ThreadState.{ThreadState}
use Rattle.sd_state.specs.declared.states.State.{State}
use Rattle.sd_state.specs.States.{thread_of, cpu_of, with_thread, with_cpu, eff_of}
use Rattle.sd_machine.specs.Shapes.{FitsFully}
use Rattle.sd_state.specs.Operations.{op_of}
use Rattle.sd_machine.specs.Threads.{lock_of, with_lock, with_count, with_open, best_waiter, has_waiters}
use Rattle.sd_machine.specs.Changes.{finish_op, run_tick, set_class, send_back, hold, let_go, set_number, set_looped, set_duty, count_tick, clear_marks, set_mark, set_kernel_mark, mark_over, remark, run_on, leave, put, put_where, close, join, bind, unbind}
use Rattle.sd_machine.specs.Dispatching.{charge, class_counts, preempted, sent_away}
use Rattle.sd_machine.specs.Sleeping.{woken, roused_on, roused}
use Rattle.sd_machine.specs.Locking.{free_or_passed, release_from, unblocked_on, granted_to_writer, granted_to_reader, granted, passed_on, passed}
use Rattle.sd_machine.specs.Requeueing.{reordered_at, reordered}
use Rattle.sd_machine.specs.Walking.{willed}
use Rattle.sd_machine.specs.Prioritising.{answer_to, walk_from, changed_by, changed_on, lifted, aged}
use Rattle.sd_machine.specs.SetChanges.{cleared, called_back, rebound, pbound}
use Rattle.sd_machine.specs.Events.{drop_ageing, effect, after}
use Rattle.sd_machine.specs.Deeds.{Deed, CountsTick, RunsTick, CountsClass, ClearsMarks, LooksAgain, ComesHere, GoesTo, GoesBack, GoesAway, WakesUp, WakesIf, PutsThread, EndsOp, TakesLock, ReadsLock, HoldsLock, FreesLock, LetsGo, FreesLast, GrantsLock, PassesLock, BeginsWalk, WalksOn, EndsDuty, OrdersWake, Rouses, Lifts, Reclasses, TakesOne, CountsOne, MovesCpu, JoinsSet, BindsThread, did, all_did, deeds}
use Rattle.sd_machine.proofs.DeedLemmas.{effect_did, each_keeps}

-- s' has as many of each as s
pub record IsShaped (s s' : State) : Type 0 where
  pub threads : length s'.threads ≡ length s.threads
  pub locks : length s'.locks ≡ length s.locks
  pub cpus : length s'.cpus ≡ length s.cpus
  pub chans : length s'.counts ≡ length s.counts
  pub sets : length s'.open_cpus ≡ length s.open_cpus

pub same_shape : (s : State) → IsShaped s s
same_shape s = record { threads = refl; locks = refl; cpus = refl; chans = refl; sets = refl }

pub then_shape : (s r q : State) → IsShaped s r → IsShaped r q → IsShaped s q
then_shape s r q a b = record {
  threads = b.threads ∙ a.threads;
  locks = b.locks ∙ a.locks;
  cpus = b.cpus ∙ a.cpus;
  chans = b.chans ∙ a.chans;
  sets = b.sets ∙ a.sets;
}

pub shape_fits : (w : Work) (s r : State) → IsShaped s r → FitsFully w s → FitsFully w r
shape_fits w s r a f = record {
  threads = a.threads ∙ f.threads;
  locks = a.locks ∙ f.locks;
  cpus = a.cpus ∙ f.cpus;
  chans = a.chans ∙ f.chans;
  sets = a.sets ∙ f.sets;
}

pub thread_shape : (s : State) (t : ℕ) (x : ThreadState) → IsShaped s (with_thread s t x)
thread_shape s t x = record { threads = length-set s.threads t x; locks = refl; cpus = refl; chans = refl; sets = refl }

pub cpu_shape : (s : State) (c : ℕ) (x : CpuState) → IsShaped s (with_cpu s c x)
cpu_shape s c x = record { threads = refl; locks = refl; cpus = length-set s.cpus c x; chans = refl; sets = refl }

pub lock_shape : (s : State) (l : ℕ) (x : LockState) → IsShaped s (with_lock s l x)
lock_shape s l x = record { threads = refl; locks = length-set s.locks l x; cpus = refl; chans = refl; sets = refl }

pub count_shape : (s : State) (k n : ℕ) → IsShaped s (with_count s k n)
count_shape s k n = record { threads = refl; locks = refl; cpus = refl; chans = length-set s.counts k n; sets = refl }

pub open_shape : (s : State) (p : ℕ) (cpus : List CpuId) → IsShaped s (with_open s p cpus)
open_shape s p cpus = record { threads = refl; locks = refl; cpus = refl; chans = refl; sets = length-set s.open_cpus p (record { items = cpus }) }

pub finish_op_shape : (w : Work) (s : State) (t : ℕ) → IsShaped s (finish_op w s t)
unfolding finish_op
finish_op_shape w s t = thread_shape s t _

pub run_tick_shape : (w : Work) (s : State) (t : ℕ) → IsShaped s (run_tick w s t)
unfolding run_tick
run_tick_shape w s t = thread_shape s t _

pub set_class_shape : (s : State) (t : ℕ) (class : ClassState) → IsShaped s (set_class s t class)
unfolding set_class
set_class_shape s t class = thread_shape s t _

pub send_back_shape : (s : State) (t : ℕ) → IsShaped s (send_back s t)
unfolding send_back
send_back_shape s t = thread_shape s t _

pub hold_shape : (s : State) (t : ℕ) (l : LockId) → IsShaped s (hold s t l)
unfolding hold
hold_shape s t l = thread_shape s t _

pub let_go_shape : (s : State) (t : ℕ) (l : LockId) → IsShaped s (let_go s t l)
unfolding let_go
let_go_shape s t l = thread_shape s t _

pub set_number_shape : (s : State) (t : ℕ) (l : LockId) (number : Option ℕ) → IsShaped s (set_number s t l number)
unfolding set_number
set_number_shape s t l number = thread_shape s t _

pub set_looped_shape : (s : State) (t : ℕ) (looped : Bool) → IsShaped s (set_looped s t looped)
unfolding set_looped
set_looped_shape s t looped = thread_shape s t _

pub run_on_shape : (s : State) (t : ℕ) (c : CpuId) → IsShaped s (run_on s t c)
unfolding run_on
run_on_shape s t c = thread_shape s t _

pub set_duty_shape : (s : State) (c : ℕ) (duty : Duty) → IsShaped s (set_duty s c duty)
unfolding set_duty
set_duty_shape s c duty = cpu_shape s c _

pub count_tick_shape : (w : Work) (s : State) (c : ℕ) → IsShaped s (count_tick w s c)
unfolding count_tick
count_tick_shape w s c = cpu_shape s c _

pub clear_marks_shape : (s : State) (c : ℕ) → IsShaped s (clear_marks s c)
unfolding clear_marks
clear_marks_shape s c = cpu_shape s c _

pub set_mark_shape : (s : State) (c : ℕ) (m : ℕ) → IsShaped s (set_mark s c m)
unfolding set_mark
set_mark_shape s c m = cpu_shape s c _

pub set_kernel_mark_shape : (s : State) (c : ℕ) → IsShaped s (set_kernel_mark s c)
unfolding set_kernel_mark
set_kernel_mark_shape s c = cpu_shape s c _

pub either_shape : (s r q : State) (b : Bool) → IsShaped s r → IsShaped s q → IsShaped s (if b then r else q)
either_shape s r q true a b = a
either_shape s r q false a b = b

pub mark_over_shape : (s : State) (x : ℕ) (m : ℕ) → IsShaped s (mark_over s x m)
unfolding mark_over
mark_over_shape s x m = either_shape s _ _ _ (set_mark_shape s x m) (same_shape s)

pub remark_shape : (s : State) (x : ℕ) → IsShaped s (remark s x)
unfolding remark
remark_shape s x = either_shape s _ _ _ (set_mark_shape s x _) (same_shape s)

pub leave_shape : (s : State) (c : ℕ) (t : ℕ) (place : Place) → IsShaped s (leave s c t place)
unfolding leave
leave_shape s c t place = then_shape s _ _ (thread_shape s t _) (cpu_shape _ c _)

pub put_shape : (w : Work) (s : State) (n : ℕ) (t : ℕ) (at : Put) → IsShaped s (put w s n t at)
unfolding put
put_shape w s n t at = then_shape s _ _ (thread_shape s t _) (mark_over_shape _ _ _)

pub put_where_shape : (w : Work) (s : State) (n t : ℕ) (at : Option Put) → IsShaped s (put_where w s n t at)
unfolding put_where
put_where_shape w s n t None = same_shape s
put_where_shape w s n t (Some at) = put_shape w s n t at

pub close_shape : (s : State) (d : CpuId) (to : SetId) → IsShaped s (close s d to)
unfolding close
close_shape s d to = then_shape s _ _ (open_shape s _ _) (cpu_shape _ d.0 _)

pub join_shape : (s : State) (c : CpuId) (to : SetId) → IsShaped s (join s c to)
unfolding join
join_shape s c to = then_shape s _ _ (open_shape s _ _) (cpu_shape _ c.0 _)

pub bind_shape : (s : State) (t : ℕ) (d : CpuId) → IsShaped s (bind s t d)
unfolding bind
bind_shape s t d = then_shape s _ _ (thread_shape s t _) (cpu_shape _ d.0 _)

pub unbind_shape : (s : State) (t : ℕ) (b : CpuId) → IsShaped s (unbind s t b)
unfolding unbind
unbind_shape s t b = then_shape s _ _ (thread_shape s t _) (cpu_shape _ b.0 _)

pub charge_shape : (s : State) (c : ℕ) (t : ℕ) (expired : Bool) → IsShaped s (charge s c t expired)
unfolding charge
charge_shape s c t expired = either_shape s _ _ _ (then_shape s _ _ (send_back_shape s t) (set_mark_shape _ c _)) (same_shape s)

pub class_counts_shape : (w : Work) (s : State) (c t : ℕ) → IsShaped s (class_counts w s c t)
class_counts_shape w s c t = then_shape s _ _ (set_class_shape s t _) (charge_shape _ c t _)

pub preempted_shape : (w : Work) (s : State) (n : ℕ) (c : CpuId) (t : ℕ) (end : End) → IsShaped s (preempted w s n c t end)
unfolding preempted
preempted_shape w s n c t end = then_shape s _ _ (set_class_shape s t _) (leave_shape _ c.0 t _)

pub sent_away_shape : (s : State) (n : ℕ) (c : CpuId) (t : ℕ) (d : CpuId) → IsShaped s (sent_away s n c t d)
unfolding sent_away
sent_away_shape s n c t d = then_shape s _ _ (leave_shape s c.0 t _) (mark_over_shape _ d.0 _)

pub woken_shape : (w : Work) (s : State) (n : ℕ) (t : ℕ) (at : Put) → IsShaped s (woken w s n t at)
unfolding woken
woken_shape w s n t at = then_shape s _ _ (set_class_shape s t _) (put_shape w _ n t at)

pub roused_on_shape : (s : State) (c : CpuId) (o : Option ℕ) → IsShaped s (roused_on s c o)
roused_on_shape s c None = set_duty_shape s c.0 _
roused_on_shape s c (Some u) = same_shape s

pub roused_shape : (w : Work) (s : State) (n : ℕ) (c : CpuId) (k : ChanId) (u : Option (ThreadId × Put)) (duty : Duty) → IsShaped s (roused w s n c k u duty)
unfolding roused
roused_shape w s n c k None duty = set_duty_shape s c.0 _
roused_shape w s n c k (Some u) duty = then_shape s _ _ (woken_shape w s n u.0.0 u.1) (roused_on_shape _ c _)

pub free_or_passed_shape : (s : State) (c : CpuId) (l : LockId) (duty : Duty) → IsShaped s (free_or_passed s c l duty)
free_or_passed_shape s c l duty =
    either_shape s _ _ (has_waiters s l.0) (then_shape s _ _ (lock_shape s l.0 _) (set_duty_shape _ c.0 duty)) (lock_shape s l.0 _)

pub release_from_shape : (w : Work) (s : State) (c : CpuId) (l : LockId) (x : LockState) → IsShaped s (release_from w s c l x)
release_from_shape w s c l Free = same_shape s
release_from_shape w s c l (Owned o) = free_or_passed_shape s c l _
release_from_shape w s c l (ReadHeld n) = either_shape s _ _ (nat_le n 1) (free_or_passed_shape s c l _) (lock_shape s l.0 _)
release_from_shape w s c l (Passing d r) = lock_shape s l.0 _

pub unblocked_on_shape : (s : State) (c : CpuId) (l : LockId) (b : Bool) → IsShaped s (unblocked_on s c l b)
unblocked_on_shape s c l true = same_shape s
unblocked_on_shape s c l false = then_shape s _ _ (lock_shape s l.0 _) (set_duty_shape _ c.0 _)

pub granted_to_writer_shape : (w : Work) (s : State) (n : ℕ) (c : CpuId) (l : LockId) (u : ℕ) (at : Put) → IsShaped s (granted_to_writer w s n c l u at)
unfolding granted_to_writer
granted_to_writer_shape w s n c l u at = then_shape s _ _ (lock_shape s l.0 _) (then_shape _ _ _ (hold_shape _ u l) (then_shape _ _ _ (finish_op_shape w _ u) (then_shape _ _ _ (set_number_shape _ u l _) (then_shape _ _ _ (woken_shape w _ n u at) (set_duty_shape _ c.0 _)))))

pub granted_to_reader_shape : (w : Work) (s : State) (n : ℕ) (l : LockId) (u : ℕ) (at : Put) → IsShaped s (granted_to_reader w s n l u at)
unfolding granted_to_reader
granted_to_reader_shape w s n l u at = then_shape s _ _ (lock_shape s l.0 _) (then_shape _ _ _ (hold_shape _ u l) (then_shape _ _ _ (finish_op_shape w _ u) (woken_shape w _ n u at)))

pub granted_shape : (w : Work) (s : State) (n : ℕ) (c : CpuId) (l : LockId) (u : ℕ) (at : Put) (d : Duty) → IsShaped s (granted w s n c l u at d)
granted_shape w s n c l u at (duty.GrantWriter m) = granted_to_writer_shape w s n c l u at
granted_shape w s n c l u at _ = granted_to_reader_shape w s n l u at

pub passed_on_shape : (s : State) (c : CpuId) (l : LockId) (x : LockState) → IsShaped s (passed_on s c l x)
passed_on_shape s c l (Passing d r) =
    either_shape s _ _ (nat_lt 0 r) (then_shape s _ _ (lock_shape s l.0 _) (set_duty_shape _ c.0 _))
    (either_shape s _ _ (is_some (best_waiter s l.0 Writer)) (set_duty_shape s c.0 _) (then_shape s _ _ (lock_shape s l.0 _) (set_duty_shape _ c.0 _)))
passed_on_shape s c l _ = set_duty_shape s c.0 _

pub passed_shape : (s : State) (c : CpuId) (l : LockId) → IsShaped s (passed s c l)
unfolding passed
passed_shape s c l = passed_on_shape s c l (lock_of s l.0)

pub reordered_at_shape : (w : Work) (s : State) (n t old : ℕ) (at : Option Put) (place : Place) → IsShaped s (reordered_at w s n t old at place)
reordered_at_shape w s n t old at (Running x) = either_shape s _ _ (nat_lt (eff_of s t) old) (remark_shape s x.0) (same_shape s)
reordered_at_shape w s n t old at _ = put_where_shape w s n t at

pub reordered_shape : (w : Work) (s : State) (n : ℕ) (t : ℕ) (old : ℕ) (at : Option Put) → IsShaped s (reordered w s n t old at)
unfolding reordered
reordered_shape w s n t old at = reordered_at_shape w s n t old at (thread_of s t).place

pub willed_shape : (w : Work) (s : State) (n : ℕ) (c : CpuId) (l : LockId) (o : ThreadId) (at : Option Put) → IsShaped s (willed w s n c l o at)
unfolding willed
willed_shape w s n c l o at = then_shape s _ _ (set_number_shape s o.0 l _) (then_shape _ _ _ (set_looped_shape _ o.0 _) (then_shape _ _ _ (set_duty_shape _ c.0 _) (reordered_shape w _ n o.0 _ at)))

pub walk_from_shape : (s : State) (c : CpuId) (u : ThreadId) (place : Place) → IsShaped s (walk_from s c u place)
walk_from_shape s c u (Waiting l side k) = set_duty_shape s c.0 _
walk_from_shape s c u _ = same_shape s

pub changed_by_shape : (w : Work) (s : State) (n : ℕ) (c : CpuId) (u : ThreadId) (at : Option Put) (r : Result ClassParms Denied) → IsShaped s (changed_by w s n c u at r)
changed_by_shape w s n c u at (Err d) = same_shape s
changed_by_shape w s n c u at (Ok parms) = then_shape s _ _ (set_class_shape s u.0 _) (then_shape _ _ _ (reordered_shape w _ n u.0 _ at) (walk_from_shape _ c u _))

pub changed_on_shape : (w : Work) (s : State) (n : ℕ) (c : CpuId) (t : ℕ) (u : ThreadId) (at : Option Put) (o : Option Op) → IsShaped s (changed_on w s n c t u at o)
changed_on_shape w s n c t u at (Some (op.Prio v r)) = changed_by_shape w s n c u at (answer_to w s t u.0 r)
changed_on_shape w s n c t u at _ = same_shape s

pub lifted_shape : (w : Work) (s : State) (n : ℕ) (c : CpuId) (t old : ℕ) → IsShaped s (lifted w s n c t old)
lifted_shape w s n c t old = either_shape s _ _ (eff_of s t == old) (same_shape s) (put_shape w s n t _)

pub aged_shape : (w : Work) (s : State) (n : ℕ) (c : CpuId) (t : ℕ) → IsShaped s (aged w s n c t)
unfolding aged
aged_shape w s n c t = then_shape s _ _ (set_class_shape s t _) (then_shape _ _ _ (lifted_shape w _ n c t _) (set_duty_shape _ c.0 _))

pub cleared_shape : (s : State) (d : CpuId) (r : Option ℕ) → IsShaped s (cleared s d r)
cleared_shape s d None = same_shape s
cleared_shape s d (Some r) = set_kernel_mark_shape s d.0

pub called_back_shape : (s : State) (d : CpuId) (place : Place) → IsShaped s (called_back s d place)
called_back_shape s d (Running c) = either_shape s _ _ (c.0 == d.0) (same_shape s) (set_kernel_mark_shape s c.0)
called_back_shape s d _ = same_shape s

pub rebound_shape : (s : State) (u : ℕ) (d b : Option CpuId) → IsShaped s (rebound s u d b)
rebound_shape s u (Some d) b = then_shape s _ _ (bind_shape s u d) (called_back_shape _ d _)
rebound_shape s u None (Some b) = unbind_shape s u b
rebound_shape s u None None = same_shape s

pub pbound_shape : (w : Work) (s : State) (n t u : ℕ) (d : Option CpuId) (answer : BindAnswer) → IsShaped s (pbound w s n t u d answer)
unfolding pbound
pbound_shape w s n t u d (bind_answer.Changed at) = then_shape s _ _ (rebound_shape s u d _) (then_shape _ _ _ (put_where_shape w _ n u at) (finish_op_shape w _ t))
pbound_shape w s n t u d bind_answer.ESRCH = finish_op_shape w s t
pbound_shape w s n t u d bind_answer.EINVAL = finish_op_shape w s t
pbound_shape w s n t u d bind_answer.EPERM = finish_op_shape w s t
pbound_shape w s n t u d bind_answer.EBUSY = finish_op_shape w s t

pub deed_shape : (w : Work) (n : ℕ) (c : CpuId) (s : State) (d : Deed) → IsShaped s (did w n c s d)
deed_shape w n c s CountsTick = count_tick_shape w s c.0
deed_shape w n c s (RunsTick t) = run_tick_shape w s t
deed_shape w n c s (CountsClass t) = class_counts_shape w s c.0 t
deed_shape w n c s ClearsMarks = clear_marks_shape s c.0
deed_shape w n c s LooksAgain = remark_shape s c.0
deed_shape w n c s (ComesHere t) = run_on_shape s t c
deed_shape w n c s (GoesTo t whither) = leave_shape s c.0 t _
deed_shape w n c s (GoesBack t end) = preempted_shape w s n c t end
deed_shape w n c s (GoesAway t d) = sent_away_shape s n c t d
deed_shape w n c s (WakesUp t at) = woken_shape w s n t at
deed_shape w n c s (WakesIf None) = same_shape s
deed_shape w n c s (WakesIf (Some u)) = woken_shape w s n u.0.0 u.1
deed_shape w n c s (PutsThread t at) = put_shape w s n t at
deed_shape w n c s (EndsOp t) = finish_op_shape w s t
deed_shape w n c s (TakesLock t l) = lock_shape s l.0 _
deed_shape w n c s (ReadsLock l) = lock_shape s l.0 _
deed_shape w n c s (HoldsLock t l) = hold_shape s t l
deed_shape w n c s (FreesLock l) = release_from_shape w s c l (lock_of s l.0)
deed_shape w n c s (LetsGo t l) = let_go_shape s t l
deed_shape w n c s (FreesLast l) = unblocked_on_shape s c l _
deed_shape w n c s (GrantsLock l u at) = granted_shape w s n c l u at (cpu_of s c.0).duty
deed_shape w n c s (PassesLock l) = passed_shape s c l
deed_shape w n c s (BeginsWalk t l) = set_duty_shape s c.0 _
deed_shape w n c s (WalksOn l o at) = willed_shape w s n c l o at
deed_shape w n c s EndsDuty = set_duty_shape s c.0 _
deed_shape w n c s (OrdersWake k) = either_shape s _ _ _ (same_shape s) (set_duty_shape s c.0 _)
deed_shape w n c s (Rouses k u) = roused_shape w s n c k u (cpu_of s c.0).duty
deed_shape w n c s (Lifts t) = aged_shape w s n c t
deed_shape w n c s (Reclasses t u (Changed p at)) = changed_on_shape w s n c t u at (op_of w t (thread_of s t).body)
deed_shape w n c s (Reclasses t u (Refused denied)) = same_shape s
deed_shape w n c s (TakesOne k) = count_shape s k.0 _
deed_shape w n c s (CountsOne k) = count_shape s k.0 _
deed_shape w n c s (MovesCpu d to assign.Changed) = then_shape s _ _ (close_shape s d to) (cleared_shape _ d _)
deed_shape w n c s (MovesCpu d to _) = same_shape s
deed_shape w n c s (JoinsSet to) = join_shape s c to
deed_shape w n c s (BindsThread u d (bind_answer.Changed at)) = then_shape s _ _ (rebound_shape s u d _) (put_where_shape w _ n u at)
deed_shape w n c s (BindsThread u d _) = same_shape s

pub deeds_shape : (w : Work) (n : ℕ) (c : CpuId) (s : State) (ds : List Deed) → IsShaped s (all_did w n c s ds)
deeds_shape w n c s ds = each_keeps w n c same_shape then_shape (deed_shape w n c) s ds

pub effect_shape : (w : Work) (s : State) (n : ℕ) (c : CpuId) (e : Event) → IsShaped s (effect w s n c e)
effect_shape w s n c e = subst (λ r. IsShaped s r) (sym (effect_did w s n c e)) (deeds_shape w n c s (deeds e))

pub after_shape : (w : Work) (s : State) (n : ℕ) (c : CpuId) (e : Event) → IsShaped s (after w s n c e)
unfolding after drop_ageing
after_shape w s n c e = then_shape s _ _ (set_duty_shape s c.0 _) (effect_shape w _ n c e)

pub after_fits : (w : Work) (s : State) (n : ℕ) (c : CpuId) (e : Event) → FitsFully w s → FitsFully w (after w s n c e)
after_fits w s n c e f = shape_fits w s _ (after_shape w s n c e) f
