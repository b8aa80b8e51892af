-- The locks and the duties after each event.
use Rattle.std.proofs.Common.{◌≡◌, ℕ, ◌+◌, ◌%◌, ◌<◌, Bool, true, false, ◌||◌, List, length, set, Option, Some, None, refl, ◌∙◌, sym, subst, ap, arith, [], ◌∷◌}
use Rattle.std.specs.Prelude.{int_lt}
use Rattle.std.specs.Ordering.{int_eq}
use Rattle.sd_machine.specs.Holders as H
use Rattle.sd_state.proofs.KeyLemmas.{IsPut}
use Rattle.sd_machine.proofs.ShapeLemmas.{IsShaped, then_shape, lock_shape, finish_op_shape, hold_shape, set_number_shape, leave_shape, woken_shape}
use Rattle.sd_frames.specs.Causes.{GivesWay}
use Rattle.sd_frames.specs.Passing.{pass_of}
use Rattle.sd_frames.proofs.Parts.{put_item, put_same, same_put}
use Rattle.sd_frames.proofs.FieldWords as W
use Rattle.sd_frames.proofs.Frames as F
use Rattle.sd_frames.proofs.Frames.{IsFrame, KeepsRest, Rest, rest_of}
use Rattle.sd_frames.proofs.CpuWords as C
use Rattle.sd_frames.proofs.Made.{Kind, Dutied, Ticked}
use Rattle.sd_types.specs.declared.numbers.ChanId.{ChanId}
use Rattle.sd_types.specs.declared.numbers.CpuId.{CpuId}
use Rattle.sd_types.specs.declared.numbers.LockId.{LockId}
use Rattle.sd_types.specs.declared.numbers.SetId.{SetId}
use Rattle.sd_types.specs.declared.numbers.ThreadId.{ThreadId}
use Rattle.sd_types.specs.declared.classes.ClassParms.{ClassParms}
use Rattle.sd_types.specs.declared.events.Denied.{Denied}
use Rattle.sd_types.specs.declared.events.Duty.{Duty}
use Rattle.sd_types.specs.declared.events.Duty.TheVariants as duty
use Rattle.sd_types.specs.declared.events.Event.{Event}
use Rattle.sd_types.specs.declared.events.Event.TheVariants.{Enter, Read, Write, Exit, Unblock, Grant, Passed, CvWait}
use Rattle.sd_types.specs.declared.events.PrioAnswer.TheVariants.{Changed, Refused}
use Rattle.sd_types.specs.declared.events.Put.{Put}
use Rattle.sd_types.specs.declared.scripts.Op.{Op}
use Rattle.sd_types.specs.declared.scripts.Op.TheVariants as op
use Rattle.sd_types.specs.declared.works.Work.{Work}
use Rattle.std.specs.Prelude.{if◌then◌else◌, Result, Ok, Err, ◌==◌, ◌&&◌}
use Rattle.sd_state.specs.declared.states.Place.{Place}
use Rattle.sd_state.specs.declared.states.Place.TheVariants.{Running, Queued, RealTime, Waiting, Asleep, Napping, Ended}
use Rattle.sd_state.specs.declared.states.LockState.{LockState}
use Rattle.sd_state.specs.declared.states.LockState.TheVariants.{Owned}
use Rattle.sd_state.specs.declared.states.CpuState.{CpuState}
use Rattle.sd_state.specs.declared.states.State.{State}
use Rattle.sd_state.specs.States.{no_cpu, thread_of, cpu_of, eff_of}
use Rattle.sd_state.specs.Operations.{op_of}
use Rattle.sd_machine.specs.Threads.{thread_id, lock_of, with_lock, best_sleeper_below, greatest_waiting}
use Rattle.sd_machine.specs.Bodies.{aged_class}
use Rattle.sd_machine.specs.Changes.{back_key, finish_op, set_class, hold, set_number, set_looped, set_duty, duty_after, count_tick, leave, close, join}
use Rattle.sd_machine.specs.Sleeping.{woken, roused_on, rouse_key, roused, fallen_asleep}
use Rattle.sd_machine.specs.Locking.{owned, one_more, read, side_of, blocked, release_from, released, exited, others_waiting, one_reader_more, granted_to_writer, granted_to_reader}
use Rattle.sd_machine.specs.Requeueing.{reordered}
use Rattle.sd_machine.specs.Walking.{is_back, next_walk, walked, willed}
use Rattle.sd_machine.specs.Prioritising.{answer_to, new_class, walk_from, changed_by, changed_on, lifted, aged}
use Rattle.sd_machine.specs.Conditions.{cv_waited}
use Rattle.std.specs.List.{list_all}
use Rattle.sd_machine.specs.Events.{keeps_ageing, dropped_duty, drop_ageing, effect, after}
use Rattle.sd_machine.specs.Deeds.{EndsOp, GoesTo, LetsGo, LooksAgain, ToSleep, Deed, CountsTick, TakesLock, ReadsLock, FreesLock, FreesLast, GrantsLock, PassesLock, BeginsWalk, WalksOn, EndsDuty, OrdersWake, Rouses, Lifts, Reclasses, did, deeds}
use Rattle.sd_machine.proofs.DeedLemmas.{all_keep, effect_did}

-- Fields.

abbrev pub locks_field : State → List LockState
locks_field s = s.locks

abbrev pub Locks : State → State → Type 0
Locks s r = W.Kept locks_field (λ s t x. refl) (λ s c x. refl) s r

locks_frame : (w : Work) → IsFrame w Locks
locks_frame w = W.frame locks_field (λ s t x. refl) (λ s c x. refl) w

-- the locks of the second state
pub record LocksAre (s r : State) (xs : List LockState) : Type 0 where
  pub are : r.locks ≡ xs

pub same_locks_are : (s r q : State) (xs : List LockState) → LocksAre s r xs → Locks r q → LocksAre s q xs
same_locks_are s r q xs a b = record { are = b.same ∙ a.are }

pub owned_locks : (w : Work) (s : State) (t : ℕ) (l : LockId) → LocksAre s (owned w s t l) (set s.locks l.0 (Owned (thread_id t)))
unfolding owned
owned_locks w s t l = same_locks_are s (with_lock s l.0 (Owned (thread_id t))) _ _ (record { are = refl })
    ((locks_frame w).joins _ _ _ (F.hold_kept w (locks_frame w) _ t l) (F.finish_op_kept w (locks_frame w) _ t))

pub read_locks : (w : Work) (s : State) (t : ℕ) (l : LockId) → LocksAre s (read w s t l) (set s.locks l.0 (one_more (lock_of s l.0)))
unfolding read
read_locks w s t l = same_locks_are s (with_lock s l.0 (one_more (lock_of s l.0))) _ _ (record { are = refl })
    ((locks_frame w).joins _ _ _ (F.hold_kept w (locks_frame w) _ t l) (F.finish_op_kept w (locks_frame w) _ t))

pub released_locks : (w : Work) (s : State) (c : CpuId) (t : ℕ) (l : LockId) → LocksAre s (released w s c t l) (release_from w s c l (lock_of s l.0)).locks
unfolding released
released_locks w s c t l = record { are = (F.let_go_kept w (locks_frame w) (release_from w s c l (lock_of s l.0)) t l).same }

pub exited_locks : (w : Work) (s : State) (c : CpuId) (t : ℕ) (l : LockId) → LocksAre s (exited w s c t l) (release_from w s c l (lock_of s l.0)).locks
unfolding exited
exited_locks w s c t l = same_locks_are s (released w s c t l) _ _ (released_locks w s c t l)
    ((locks_frame w).joins _ _ _ (F.finish_op_kept w (locks_frame w) _ t) (F.remark_kept w (locks_frame w) _ c.0))

pub cv_waited_locks : (w : Work) (s : State) (n : ℕ) (c : CpuId) (t : ℕ) (k : ChanId) (l : LockId) → LocksAre s (cv_waited w s n c t k l) (release_from w s c l (lock_of s l.0)).locks
unfolding cv_waited
cv_waited_locks w s n c t k l = same_locks_are s (released w s c t l) _ _ (released_locks w s c t l) (F.fallen_asleep_kept w (locks_frame w) _ n c t k)

pub woken_locks : (w : Work) (s : State) (n u : ℕ) (at : Put) → Locks s (woken w s n u at)
woken_locks w s n u at = F.woken_kept w (locks_frame w) s n u at

pub granted_to_writer_locks : (w : Work) (s : State) (n : ℕ) (c : CpuId) (l : LockId) (u : ℕ) (at : Put) → LocksAre s (granted_to_writer w s n c l u at) (set s.locks l.0 (Owned (thread_id u)))
unfolding granted_to_writer
granted_to_writer_locks w s n c l u at = same_locks_are s (with_lock s l.0 (Owned (thread_id u))) _ _ (record { are = refl })
    ((locks_frame w).joins _ _ _ (F.hold_kept w (locks_frame w) _ u l)
    ((locks_frame w).joins _ _ _ (F.finish_op_kept w (locks_frame w) _ u)
    ((locks_frame w).joins _ _ _ (F.set_number_kept w (locks_frame w) _ u l _)
    ((locks_frame w).joins _ _ _ (woken_locks w _ n u at) (F.set_duty_kept w (locks_frame w) _ c.0 _)))))

pub granted_to_reader_locks : (w : Work) (s : State) (n : ℕ) (l : LockId) (u : ℕ) (at : Put) → LocksAre s (granted_to_reader w s n l u at) (set s.locks l.0 (one_reader_more (lock_of s l.0)))
unfolding granted_to_reader
granted_to_reader_locks w s n l u at = same_locks_are s (with_lock s l.0 (one_reader_more (lock_of s l.0))) _ _ (record { are = refl })
    ((locks_frame w).joins _ _ _ (F.hold_kept w (locks_frame w) _ u l)
    ((locks_frame w).joins _ _ _ (F.finish_op_kept w (locks_frame w) _ u) (woken_locks w _ n u at)))

-- Duties.

abbrev pub duty_part : CpuState → Duty
duty_part x = x.duty

pub duty_marks : C.Markless duty_part
duty_marks = record { marks = λ x u k. refl }

-- the kinds of changes that write no duty
abbrev pub leaves_duty : Kind → Bool
leaves_duty Dutied = false
leaves_duty Ticked = false
leaves_duty _ = true

pub duty_left : (k : Kind) → leaves_duty k ≡ true → C.Leaves duty_part k
duty_left Dutied is = cc
duty_left Ticked is = cc
duty_left _ is = λ x y. refl

abbrev pub Duties : State → State → Type 0
Duties s r = C.Kept duty_part s r

pub exited_duties : (w : Work) (s : State) (c : CpuId) (t : ℕ) (l : LockId) → Duties (release_from w s c l (lock_of s l.0)) (exited w s c t l)
unfolding exited released
exited_duties w s c t l = C.deeds_kept duty_part duty_marks w 0 c (release_from w s c l (lock_of s l.0)) (LetsGo t l ∷ EndsOp t ∷ LooksAgain ∷ []) refl

pub cv_waited_duties : (w : Work) (s : State) (n : ℕ) (c : CpuId) (t : ℕ) (k : ChanId) (l : LockId) → Duties (release_from w s c l (lock_of s l.0)) (cv_waited w s n c t k l)
unfolding cv_waited released fallen_asleep
cv_waited_duties w s n c t k l = C.deeds_kept duty_part duty_marks w n c (release_from w s c l (lock_of s l.0)) (LetsGo t l ∷ GoesTo t (ToSleep k) ∷ EndsOp t ∷ []) refl

pub woken_duties : (w : Work) (s : State) (n u : ℕ) (at : Put) → Duties s (woken w s n u at)
woken_duties w s n u at = C.woken_kept duty_part duty_marks w s n u at

-- processor c has this duty, and the others have theirs
pub record DutyIs (s r : State) (c : ℕ) (d : Duty) : Type 0 where
  pub put : IsPut c d (C.of_cpus duty_part s) (C.of_cpus duty_part r)

pub set_duty_is : (s : State) (c : ℕ) (d : Duty) → c < length s.cpus → DutyIs s (set_duty s c d) c d
unfolding set_duty
set_duty_is s c d here = record { put = put_item duty_part s.cpus no_cpu c (record (cpu_of s c) { duty = d }) here }

pub duties_then : (s r q : State) (c : ℕ) (d : Duty) → Duties s r → DutyIs r q c d → DutyIs s q c d
duties_then s r q c d a b = record { put = same_put c d a.each b.put }

pub then_duties : (s r q : State) (c : ℕ) (d : Duty) → DutyIs s r c d → Duties r q → DutyIs s q c d
then_duties s r q c d a b = record { put = put_same c d a.put b.each }

pub cpu_there : (s r : State) (c : ℕ) → IsShaped s r → c < length s.cpus → c < length r.cpus
cpu_there s r c a here = omega (arith, a.cpus)

pub granted_to_writer_duty : (w : Work) (s : State) (n : ℕ) (c : CpuId) (l : LockId) (u : ℕ) (at : Put) → c.0 < length s.cpus → DutyIs s (granted_to_writer w s n c l u at) c.0 duty.Nothing
unfolding granted_to_writer
granted_to_writer_duty w s n c l u at here =
    let x : State = set_number (finish_op w (hold (with_lock s l.0 (Owned (thread_id u))) u l) u) u l (others_waiting s l u) in
    let before : Duties s x = C.then_kept duty_part s _ _ (C.lock_kept duty_part s l.0 (Owned (thread_id u))) (C.then_kept duty_part _ _ _ (C.hold_kept duty_part duty_marks _ u l)
    (C.then_kept duty_part _ _ _ (C.finish_op_kept duty_part duty_marks w _ u) (C.set_number_kept duty_part duty_marks _ u l (others_waiting s l u)))) in
    let shape : IsShaped s x = then_shape s _ _ (lock_shape s l.0 (Owned (thread_id u))) (then_shape _ _ _ (hold_shape _ u l) (then_shape _ _ _ (finish_op_shape w _ u) (set_number_shape _ u l (others_waiting s l u)))) in
    duties_then s (woken w x n u at) _ c.0 duty.Nothing (C.then_kept duty_part s x _ before (woken_duties w x n u at))
    (set_duty_is _ c.0 duty.Nothing (cpu_there s _ c.0 (then_shape s _ _ shape (woken_shape w x n u at)) here))

pub granted_to_reader_duties : (w : Work) (s : State) (n : ℕ) (l : LockId) (u : ℕ) (at : Put) → Duties s (granted_to_reader w s n l u at)
unfolding granted_to_reader
granted_to_reader_duties w s n l u at =
    C.then_kept duty_part s _ _ (C.lock_kept duty_part s l.0 (one_reader_more (lock_of s l.0))) (C.then_kept duty_part _ _ _ (C.hold_kept duty_part duty_marks _ u l)
    (C.then_kept duty_part _ _ _ (C.finish_op_kept duty_part duty_marks w _ u) (woken_duties w _ n u at)))

pub blocked_duty : (w : Work) (s : State) (n : ℕ) (c : CpuId) (t : ℕ) (l : LockId) → c.0 < length s.cpus → DutyIs s (blocked w s n c t l) c.0 (duty.Walk l (thread_id t) (back_key n))
unfolding blocked
blocked_duty w s n c t l here =
    duties_then s (leave s c.0 t (Waiting l (side_of (op_of w t (thread_of s t).body)) (back_key n))) _ c.0 _ (C.leave_kept duty_part duty_marks s c.0 t _) (set_duty_is _ c.0 _ (cpu_there s _ c.0 (leave_shape s c.0 t _) here))

-- What is passed on.

abbrev pub pass_part : CpuState → Option H.Pass
pass_part x = pass_of x.duty

pub pass_marks : C.Markless pass_part
pass_marks = record { marks = λ x u k. refl }

abbrev pub Passes : State → State → Type 0
Passes s r = C.Kept pass_part s r

pub duty_passes : (s : State) (c : ℕ) (d : Duty) → pass_of d ≡ pass_of (cpu_of s c).duty → Passes s (set_duty s c d)
unfolding set_duty
duty_passes s c d same = C.written pass_part s c _ same

pub free_passes : (d : Duty) → GivesWay d → pass_of d ≡ None
free_passes duty.Nothing f = refl
free_passes (duty.Age u) f = refl
free_passes d f = absurd f

dropped_passes : (e : Event) (d : Duty) → pass_of (dropped_duty e d) ≡ pass_of d
dropped_passes e (duty.Age u) = elim (keeps_ageing e) as (λ b. pass_of (if b then duty.Age u else duty.Nothing) ≡ None) [ true ↦ refl | false ↦ refl ]
dropped_passes e d = refl

pub drop_passes : (s : State) (c : ℕ) (e : Event) → Passes s (drop_ageing s c e)
unfolding drop_ageing
drop_passes s c e = duty_passes s c _ (dropped_passes e (cpu_of s c).duty)

-- What is passed on, with the duty: nothing where the duty passes no lock on.

abbrev pub pass_duty : Duty → Duty
pass_duty (duty.WakeMutex l) = duty.WakeMutex l
pass_duty (duty.GrantWriter l) = duty.GrantWriter l
pass_duty (duty.GrantReaders l) = duty.GrantReaders l
pass_duty _ = duty.Nothing

abbrev pub served_part : CpuState → Duty
served_part x = pass_duty x.duty

pub served_marks : C.Markless served_part
served_marks = record { marks = λ x u k. refl }

abbrev pub Served : State → State → Type 0
Served s r = C.Kept served_part s r

pub duty_served : (s : State) (c : ℕ) (d : Duty) → pass_duty d ≡ pass_duty (cpu_of s c).duty → Served s (set_duty s c d)
unfolding set_duty
duty_served s c d same = C.written served_part s c _ same

pub free_served : (d : Duty) → GivesWay d → pass_duty d ≡ duty.Nothing
free_served duty.Nothing f = refl
free_served (duty.Age u) f = refl
free_served d f = absurd f

dropped_served : (e : Event) (d : Duty) → pass_duty (dropped_duty e d) ≡ pass_duty d
dropped_served e (duty.Age u) = elim (keeps_ageing e) as (λ b. pass_duty (if b then duty.Age u else duty.Nothing) ≡ duty.Nothing) [ true ↦ refl | false ↦ refl ]
dropped_served e d = refl

pub drop_served : (s : State) (c : ℕ) (e : Event) → Served s (drop_ageing s c e)
unfolding drop_ageing
drop_served s c e = duty_served s c _ (dropped_served e (cpu_of s c).duty)

after_tick_served : (w : Work) (n : ℕ) (d : Duty) → pass_duty d ≡ duty.Nothing → pass_duty (duty_after w n d) ≡ duty.Nothing
after_tick_served w n d free = elim ((n % w.hz) == 0) as (λ b. pass_duty (if b then duty.Age (record { 0 = 0 }) else d) ≡ duty.Nothing) [ true ↦ refl | false ↦ free ]

count_tick_served : (w : Work) (s : State) (c : ℕ) → pass_duty (cpu_of s c).duty ≡ duty.Nothing → Served s (count_tick w s c)
unfolding count_tick
count_tick_served w s c free = C.written served_part s c _ (after_tick_served w ((cpu_of s c).count + 1) (cpu_of s c).duty free ∙ sym free)

roused_served : (w : Work) (s : State) (n : ℕ) (c : CpuId) (k : ChanId) (u : Option (ThreadId × Put)) (d : Duty) → pass_duty (cpu_of s c.0).duty ≡ duty.Nothing → Served s (roused w s n c k u d)
unfolding roused
roused_served w s n c k None d free = duty_served s c.0 duty.Nothing (sym free)
roused_served w s n c k (Some u) d free = C.then_kept served_part s (woken w s n u.0.0 u.1) _ (C.woken_kept served_part served_marks w s n u.0.0 u.1) (by (best_sleeper_below (woken w s n u.0.0 u.1) k.0 (rouse_key d)))
  where
    by : (o : Option ℕ) → Served (woken w s n u.0.0 u.1) (roused_on (woken w s n u.0.0 u.1) c o)
    by None = duty_served _ c.0 duty.Nothing (sym ((C.woken_kept served_part served_marks w s n u.0.0 u.1).each c.0 ∙ free))
    by (Some v) = C.same_kept served_part _

next_walk_served : (d : Duty) (o : ThreadId) (looped : Bool) (p : Place) → pass_duty (next_walk d o looped p) ≡ duty.Nothing
next_walk_served (duty.Walk l seek key) o looped (Waiting m side k) =
    elim (looped || ((seek.0 == o.0) && int_eq key k)) as (λ b. pass_duty (if b then duty.Nothing else if int_lt key k then duty.Walk m o k else duty.Walk m seek key) ≡ duty.Nothing)
    [ true ↦ refl | false ↦ elim (int_lt key k) as (λ b. pass_duty (if b then duty.Walk m o k else duty.Walk m seek key) ≡ duty.Nothing) [ true ↦ refl | false ↦ refl ] ]
next_walk_served (duty.Walk l seek key) o looped (Running c) = refl
next_walk_served (duty.Walk l seek key) o looped (Queued c k) = refl
next_walk_served (duty.Walk l seek key) o looped (RealTime q k) = refl
next_walk_served (duty.Walk l seek key) o looped (Asleep j k) = refl
next_walk_served (duty.Walk l seek key) o looped (Napping c due) = refl
next_walk_served (duty.Walk l seek key) o looped Ended = refl
next_walk_served duty.Nothing o looped p = refl
next_walk_served (duty.WakeMutex l) o looped p = refl
next_walk_served (duty.GrantWriter l) o looped p = refl
next_walk_served (duty.GrantReaders l) o looped p = refl
next_walk_served (duty.Rouse k below) o looped p = refl
next_walk_served (duty.Age u) o looped p = refl

willed_served : (w : Work) (s : State) (n : ℕ) (c : CpuId) (l : LockId) (o : ThreadId) (at : Option Put) → pass_duty (cpu_of s c.0).duty ≡ duty.Nothing → Served s (willed w s n c l o at)
unfolding willed
willed_served w s n c l o at free =
    let a : Served s (set_looped (set_number s o.0 l (greatest_waiting l.0 s.threads)) o.0 ((thread_of s o.0).body.looped || is_back (cpu_of s c.0).duty o (thread_of s o.0).place)) =
    C.then_kept served_part s _ _ (C.set_number_kept served_part served_marks s o.0 l _) (C.set_looped_kept served_part served_marks _ o.0 _) in
    C.then_kept served_part s (walked s c l o) _
    (C.then_kept served_part s _ _ a (duty_served _ c.0 _ (next_walk_served (cpu_of s c.0).duty o (thread_of s o.0).body.looped (thread_of s o.0).place ∙ sym (a.each c.0 ∙ free))))
    (C.reordered_kept served_part served_marks w _ n o.0 _ at)

aged_served : (w : Work) (s : State) (n : ℕ) (c : CpuId) (t : ℕ) → pass_duty (cpu_of s c.0).duty ≡ duty.Nothing → Served s (aged w s n c t)
unfolding aged
aged_served w s n c t free =
    let a : Served s (lifted w (set_class s t (aged_class w (thread_of s t).body.class)) n c t (eff_of s t)) =
    C.then_kept served_part s _ _ (C.set_class_kept served_part served_marks s t _) (C.lifted_kept served_part served_marks w _ n c t _) in
    C.then_kept served_part s _ _ a (duty_served _ c.0 _ (sym (a.each c.0 ∙ free)))

walk_from_served : (s : State) (c : CpuId) (u : ThreadId) (p : Place) → pass_duty (cpu_of s c.0).duty ≡ duty.Nothing → Served s (walk_from s c u p)
walk_from_served s c u (Waiting l side k) free = duty_served s c.0 _ (sym free)
walk_from_served s c u p free = C.same_kept served_part s

changed_by_served : (w : Work) (s : State) (n : ℕ) (c : CpuId) (u : ThreadId) (at : Option Put) (r : Result ClassParms Denied) → pass_duty (cpu_of s c.0).duty ≡ duty.Nothing → Served s (changed_by w s n c u at r)
changed_by_served w s n c u at (Err d) free = C.same_kept served_part s
changed_by_served w s n c u at (Ok parms) free =
    let a : Served s (reordered w (set_class s u.0 (new_class w s u.0 parms)) n u.0 (eff_of s u.0) at) =
    C.then_kept served_part s _ _ (C.set_class_kept served_part served_marks s u.0 _) (C.reordered_kept served_part served_marks w _ n u.0 _ at) in
    C.then_kept served_part s _ _ a (walk_from_served _ c u _ (a.each c.0 ∙ free))

changed_on_served : (w : Work) (s : State) (n : ℕ) (c : CpuId) (t : ℕ) (u : ThreadId) (at : Option Put) (o : Option Op) → pass_duty (cpu_of s c.0).duty ≡ duty.Nothing → Served s (changed_on w s n c t u at o)
changed_on_served w s n c t u at (Some (op.Prio v r)) free = changed_by_served w s n c u at (answer_to w s t u.0 r) free
changed_on_served w s n c t u at _ free = C.same_kept served_part s

served_left : (k : Kind) → leaves_duty k ≡ true → C.Leaves served_part k
served_left Dutied is = cc
served_left Ticked is = cc
served_left _ is = λ x y. refl

-- the deed passes no lock on, frees none and takes none, and nobody comes to wait or ceases to
abbrev pub is_lockless_deed : Deed → Bool
is_lockless_deed (TakesLock t l) = false
is_lockless_deed (ReadsLock l) = false
is_lockless_deed (FreesLock l) = false
is_lockless_deed (FreesLast l) = false
is_lockless_deed (GrantsLock l u at) = false
is_lockless_deed (PassesLock l) = false
is_lockless_deed (BeginsWalk t l) = false
is_lockless_deed _ = true

abbrev pub is_lockless : Event → Bool
is_lockless e = list_all is_lockless_deed (deeds e)

deed_served : (w : Work) (n : ℕ) (c : CpuId) (s : State) (d : Deed) → is_lockless_deed d ≡ true → pass_duty (cpu_of s c.0).duty ≡ duty.Nothing → Served s (did w n c s d)
deed_served w n c s CountsTick quiet free = count_tick_served w s c.0 free
deed_served w n c s (WalksOn l o at) quiet free = willed_served w s n c l o at free
deed_served w n c s EndsDuty quiet free = duty_served s c.0 duty.Nothing (sym free)
deed_served w n c s (OrdersWake k) quiet free = C.either_kept served_part served_marks s _ _ _ (C.same_kept served_part s) (duty_served s c.0 _ (sym free))
deed_served w n c s (Rouses k u) quiet free = roused_served w s n c k u (cpu_of s c.0).duty free
deed_served w n c s (Lifts t) quiet free = aged_served w s n c t free
deed_served w n c s (Reclasses t u (Changed p at)) quiet free = changed_on_served w s n c t u at (op_of w t (thread_of s t).body) free
deed_served w n c s (Reclasses t u (Refused denied)) quiet free = C.same_kept served_part s
deed_served w n c s (FreesLock l) quiet free = cc
deed_served w n c s (FreesLast l) quiet free = cc
deed_served w n c s (GrantsLock l u at) quiet free = cc
deed_served w n c s (PassesLock l) quiet free = cc
deed_served w n c s (BeginsWalk t l) quiet free = cc
deed_served w n c s d quiet free = C.deed_left served_part leaves_duty served_left w n c s d refl

effect_served : (w : Work) (s : State) (n : ℕ) (c : CpuId) (e : Event) → is_lockless e ≡ true → pass_duty (cpu_of s c.0).duty ≡ duty.Nothing → Served s (effect w s n c e)
effect_served w s n c e quiet free = subst (λ r. Served s r) (sym (effect_did w s n c e))
    (all_keep w n c {R = λ r q. pass_duty (cpu_of r c.0).duty ≡ duty.Nothing → Served r q} (λ r f. C.same_kept served_part r) (λ r q x a b f. C.then_kept served_part r q x (a f) (b ((a f).each c.0 ∙ f)))
    is_lockless_deed (λ r d is. deed_served w n c r d is) s (deeds e) quiet free)

pub quiet_served : (w : Work) (s : State) (n : ℕ) (c : CpuId) (e : Event) → is_lockless e ≡ true → pass_duty (cpu_of s c.0).duty ≡ duty.Nothing → Served s (after w s n c e)
unfolding after
quiet_served w s n c e quiet free =
    let a = drop_served s c.0 e in
    C.then_kept served_part s (drop_ageing s c.0 e) _ a (effect_served w _ n c e quiet (a.each c.0 ∙ free))

-- the lock that is passed on goes with the duty

of_pass_duty : (d : Duty) → pass_of (pass_duty d) ≡ pass_of d
of_pass_duty (duty.WakeMutex l) = refl
of_pass_duty d = refl

pub unserved : (d : Duty) → pass_of d ≡ None → pass_duty d ≡ duty.Nothing
unserved (duty.WakeMutex l) e = cc
unserved (duty.GrantWriter l) e = cc
unserved (duty.GrantReaders l) e = cc
unserved duty.Nothing e = refl
unserved (duty.Age u) e = refl
unserved (duty.Walk l seek k) e = refl
unserved (duty.Rouse k below) e = refl

pub served_passes : (s r : State) → Served s r → Passes s r
served_passes s r a = record { each = λ d. sym (of_pass_duty (cpu_of r d).duty) ∙ ap pass_of (a.each d) ∙ of_pass_duty (cpu_of s d).duty }

pub quiet_passes : (w : Work) (s : State) (n : ℕ) (c : CpuId) (e : Event) → is_lockless e ≡ true → pass_of (cpu_of s c.0).duty ≡ None → Passes s (after w s n c e)
quiet_passes w s n c e quiet free = served_passes s (after w s n c e) (quiet_served w s n c e quiet (unserved (cpu_of s c.0).duty free))

close_lockless : (s : State) (d : CpuId) (to : SetId) → Locks s (close s d to)
unfolding close
close_lockless s d to = record { same = refl }

join_lockless : (s : State) (c : CpuId) (to : SetId) → Locks s (join s c to)
unfolding join
join_lockless s c to = record { same = refl }

abbrev writes_locks : Rest → Bool
writes_locks Rest.locks = true
writes_locks _ = false

rest : (w : Work) (x : Rest) → writes_locks x ≡ false → KeepsRest w Locks x
rest w Rest.locks quiet = cc
rest w Rest.counts quiet = record { count = λ s k n. record { same = refl } }
rest w Rest.sets quiet = record { closes = close_lockless; enters_set = join_lockless }
rest w x quiet = W.rest locks_field (λ s t x. refl) (λ s c x. refl) w x refl

lockless_rest : (e : Event) → is_lockless e ≡ true → writes_locks (rest_of e) ≡ false
lockless_rest (Enter t l) quiet = cc
lockless_rest (Read t l) quiet = cc
lockless_rest (Write t l) quiet = cc
lockless_rest (Exit t l) quiet = cc
lockless_rest (Unblock l u at) quiet = cc
lockless_rest (Grant l u at) quiet = cc
lockless_rest (Passed l) quiet = cc
lockless_rest (CvWait t k l) quiet = cc
lockless_rest e quiet = refl

-- the locks are as they were after such an event
pub quiet_locks : (w : Work) (s : State) (n : ℕ) (c : CpuId) (e : Event) → is_lockless e ≡ true → (after w s n c e).locks ≡ s.locks
quiet_locks w s n c e quiet = (F.after_kept w (locks_frame w) s n c e (rest w (rest_of e) (lockless_rest e quiet))).same
