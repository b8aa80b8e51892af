-- What each event leaves as it was: all that is not among the parts that it touches.
use Rattle.std.proofs.Common.{◌≡◌, ℕ, ◌%◌, Bool, true, false, ◌&&◌, List, Option, Some, None, is_none, is_some, refl, sym, subst, inl, inr}
use Rattle.std.specs.Prelude.{ℤ, if◌then◌else◌, Result, Ok, Err, nat_le, nat_lt, ◌==◌}
use Rattle.sd_types.specs.Priorities.{eff}
use Rattle.sd_types.specs.declared.bodies.ThreadBody.{ThreadBody}
use Rattle.sd_types.specs.declared.classes.ClassParms.{ClassParms}
use Rattle.sd_types.specs.declared.events.AssignAnswer.{AssignAnswer}
use Rattle.sd_types.specs.declared.events.AssignAnswer.TheVariants as assign
use Rattle.sd_types.specs.declared.events.BindAnswer.{BindAnswer}
use Rattle.sd_types.specs.declared.events.BindAnswer.TheVariants as bind_answer
use Rattle.sd_types.specs.declared.events.Denied.{Denied}
use Rattle.sd_types.specs.declared.events.Duty.{Duty}
use Rattle.sd_types.specs.declared.events.Duty.TheVariants as duty
use Rattle.sd_types.specs.declared.events.End.{End}
use Rattle.sd_types.specs.declared.events.Event.{Event}
use Rattle.sd_types.specs.declared.events.Event.TheVariants.{Tick, Spin, Idle, Dispatch, Steal, Preempt, Away, Yield, Done, Nap, Napend, Wake, Wakeall, Rouse, Enter, Read, Write, Block, Will, End as WalkEnd, Exit, Unblock, Grant, Passed, Age, Prio, CvWait, SemaP, SemaVWake, SemaVCount, Assign, Move, Joined, Bind}
use Rattle.sd_types.specs.declared.events.PrioAnswer.{PrioAnswer}
use Rattle.sd_types.specs.declared.events.PrioAnswer.TheVariants.{Changed, Refused}
use Rattle.sd_types.specs.declared.events.Put.{Put}
use Rattle.sd_types.specs.declared.events.Put.TheVariants.{Cpu}
use Rattle.sd_types.specs.declared.numbers.ChanId.{ChanId}
use Rattle.sd_types.specs.declared.numbers.CpuId.{CpuId}
use Rattle.sd_types.specs.declared.numbers.HomeId.TheVariants as home
use Rattle.sd_types.specs.declared.numbers.LockId.{LockId}
use Rattle.sd_types.specs.declared.numbers.SetId.{SetId}
use Rattle.sd_types.specs.declared.numbers.Side.TheVariants.{Writer}
use Rattle.sd_types.specs.declared.numbers.ThreadId.{ThreadId}
use Rattle.sd_types.specs.declared.scripts.Op.{Op}
use Rattle.sd_types.specs.declared.scripts.Op.TheVariants as op
use Rattle.sd_types.specs.declared.works.Work.{Work}
use Rattle.sd_state.specs.declared.states.LockState.{LockState}
use Rattle.sd_state.specs.declared.states.LockState.TheVariants.{Free, Owned, ReadHeld, Passing}
use Rattle.sd_state.specs.declared.states.Place.{Place}
use Rattle.sd_state.specs.declared.states.Place.TheVariants.{Running, Queued, RealTime, Waiting, Ended}
use Rattle.sd_state.specs.declared.states.State.{State}
use Rattle.sd_state.specs.States.{cpu_of, thread_of, set_of, eff_of}
use Rattle.sd_state.specs.Operations.{op_of}
use Rattle.sd_machine.specs.Changes.{back_key, key_at, put_where, queue_place, set_duty}
use Rattle.sd_machine.specs.Conditions.{cv_waited, sema_counted, sema_handed, sema_taken}
use Rattle.sd_machine.specs.Dispatching.{charge, class_counts, dispatched, done, idled, preempted, sent_away, spun, stolen, ticked, yielded}
use Rattle.sd_machine.specs.Events.{after, drop_ageing, effect}
use Rattle.sd_machine.specs.Locking.{blocked, exited, free_or_passed, granted, granted_to_reader, granted_to_writer, owned, passed, passed_on, read, release_from, released, unblocked, unblocked_on}
use Rattle.sd_machine.specs.Prioritising.{aged, answer_to, changed_by, changed_on, lifted, reprioritised, walk_from}
use Rattle.sd_machine.specs.Requeueing.{reordered, reordered_at}
use Rattle.sd_machine.specs.SetChanges.{assigned, called_back, cleared, joined, moved, pbound, rebound}
use Rattle.sd_machine.specs.Sleeping.{fallen_asleep, napped, roused, roused_on, woke, woke_all, woken}
use Rattle.sd_machine.specs.Threads.{best_sleeper, best_waiter, has_waiters, lock_of}
use Rattle.sd_machine.specs.Walking.{walk_ended, walked, willed}
use Rattle.sd_machine.proofs.PlaceLemmas.{class_place}
use Rattle.sd_dispatcher.specs.Touched.{put_parts_if, reordered_parts}
use Rattle.sd_priocntl.specs.Touched.{prio_parts}
use Rattle.sd_sleep.specs.Touched.{woken_parts}
use Rattle.sd_priocntl.specs.SetsTouched.{bind_parts, rebound_parts, runs_parts}
use Rattle.sd_step.specs.Touched.{after_parts, touched}
use Rattle.sd_step.proofs.Dropped.{touched_dropped}
use Rattle.sd_store.specs.declared.parts.Part.{Part}
use Rattle.sd_store.specs.Parts.{IsAmong, bound_parts, put_parts}
use Rattle.sd_footprint.specs.Changed.{ChangesOnly, HasHome, RanThere}
use Rattle.sd_homes.specs.Standing.{home_of_place}
use Rattle.sd_footprint.proofs.ChangeLemmas.{AreAmong, HasActor, HasCpu, HasThread, IsAway, changes_bind, changes_class, changes_close, changes_count, changes_duty, changes_either, changes_finish, changes_hold, changes_join, changes_kernel_mark, changes_leave, changes_leave_as, changes_let_go, changes_lock, changes_looped, changes_mark, changes_mark_over, changes_marks, changes_none, changes_number, changes_put, changes_remark, changes_run_on, changes_run_tick, changes_send_back, changes_then, changes_tick, changes_unbind}
use Rattle.sd_store.proofs.Among.{among_right, among_left}
use Rattle.sd_locks.proofs.Walked.{place_kept}

-- Threads that run on a processor and leave it.

changes_charge : (ps : List Part) (s : State) (c t : ℕ) (expired : Bool) → HasThread ps t → HasCpu ps c → ChangesOnly ps s (charge s c t expired)
unfolding charge
changes_charge ps s c t expired is cpu =
    changes_either ps s _ _ _ (changes_then ps s _ _ (changes_send_back ps s t is) (changes_mark ps _ c _ cpu)) (changes_none ps s)

changes_counts : (ps : List Part) (w : Work) (s : State) (c t : ℕ) → HasThread ps t → HasCpu ps c → ChangesOnly ps s (class_counts w s c t)
changes_counts ps w s c t is cpu = changes_then ps s _ _ (changes_class ps s t _ is) (changes_charge ps _ c t _ is cpu)

changes_ticked : (ps : List Part) (w : Work) (s : State) (c t : ℕ) → HasActor ps c → HasThread ps t → HasCpu ps c → ChangesOnly ps s (ticked w s c t)
unfolding ticked
changes_ticked ps w s c t actor is cpu =
    changes_then ps s _ _ (changes_tick ps w s c actor) (changes_then ps _ _ _ (changes_run_tick ps w _ t is) (changes_counts ps w _ c t is cpu))

changes_spun : (ps : List Part) (w : Work) (s : State) (c t : ℕ) → HasActor ps c → HasThread ps t → HasCpu ps c → ChangesOnly ps s (spun w s c t)
unfolding spun
changes_spun ps w s c t actor is cpu = changes_then ps s _ _ (changes_tick ps w s c actor) (changes_counts ps w _ c t is cpu)

changes_idled : (ps : List Part) (w : Work) (s : State) (c : ℕ) → HasActor ps c → ChangesOnly ps s (idled w s c)
unfolding idled
changes_idled ps w s c actor = changes_tick ps w s c actor

changes_dispatched : (ps : List Part) (s : State) (c : CpuId) (t : ℕ) → HasThread ps t → HasCpu ps c.0 → ChangesOnly ps s (dispatched s c t)
unfolding dispatched
changes_dispatched ps s c t is cpu = changes_then ps s _ _ (changes_marks ps s c.0 cpu) (changes_run_on ps _ t c is cpu)

changes_stolen : (ps : List Part) (s : State) (c : CpuId) (t : ℕ) → HasThread ps t → HasCpu ps c.0 → ChangesOnly ps s (stolen s c t)
unfolding stolen
changes_stolen ps s c t is cpu = changes_run_on ps s t c is cpu

queue_home : (ps : List Part) (w : Work) (t : ℕ) (c : CpuId) (key : ℤ) (b : ThreadBody) (last : CpuId) → HasCpu ps c.0 → HasHome ps (home.RealTime (set_of w t)) → HasHome ps (home_of_place (queue_place w t c key b) last)
queue_home ps w t c key b last cpu set = elim (nat_le 100 (eff b) && is_none b.bound) as (λ x. HasHome ps (home_of_place (if x then RealTime (set_of w t) key else Queued c key) last)) [ true ↦ set | false ↦ cpu ]

queue_away : (w : Work) (t : ℕ) (c : CpuId) (key : ℤ) (b : ThreadBody) → IsAway (queue_place w t c key b)
queue_away w t c key b = elim (nat_le 100 (eff b) && is_none b.bound) as (λ x. IsAway (if x then RealTime (set_of w t) key else Queued c key)) [ true ↦ (λ d is. cc) | false ↦ (λ d is. cc) ]

changes_preempted : (ps : List Part) (w : Work) (s : State) (n : ℕ) (c : CpuId) (t : ℕ) (end : End) → HasThread ps t → HasCpu ps c.0 → HasHome ps (home.RealTime (set_of w t)) → ChangesOnly ps s (preempted w s n c t end)
unfolding preempted
changes_preempted ps w s n c t end is cpu set =
    changes_then ps s _ _ (changes_class ps s t _ is) (changes_leave ps _ c t _ is (queue_home ps w t c (key_at n end) (thread_of s t).body _ cpu set) (queue_away w t c (key_at n end) (thread_of s t).body) cpu)

changes_away : (ps : List Part) (s : State) (n : ℕ) (c : CpuId) (t : ℕ) (d : CpuId) → HasThread ps t → HasCpu ps c.0 → HasCpu ps d.0 → ChangesOnly ps s (sent_away s n c t d)
unfolding sent_away
changes_away ps s n c t d is cpu other = changes_then ps s _ _ (changes_leave ps s c t _ is other (λ e at. cc) cpu) (changes_mark_over ps _ d.0 _ other)

changes_yielded : (ps : List Part) (w : Work) (s : State) (n : ℕ) (c : CpuId) (t : ℕ) → HasThread ps t → HasCpu ps c.0 → HasHome ps (home.RealTime (set_of w t)) → ChangesOnly ps s (yielded w s n c t)
unfolding yielded
changes_yielded ps w s n c t is cpu set =
    changes_then ps s _ _ (changes_leave ps s c t _ is (queue_home ps w t c (back_key n) (thread_of s t).body (thread_of s t).body.last cpu set) (queue_away w t c (back_key n) (thread_of s t).body) cpu) (changes_finish ps w _ t is)

changes_done : (ps : List Part) (s : State) (c : CpuId) (t : ℕ) → (thread_of s t).place ≡ Running c → (thread_of s t).body.last ≡ c → HasCpu ps c.0 → ChangesOnly ps s (done s c t)
unfolding done
changes_done ps s c t runs last cpu =
    changes_leave_as ps s c t Ended
    (inr (subst (λ (p : Place). HasHome ps (home_of_place p (thread_of s t).body.last)) (sym runs) cpu))
    (inr (subst (λ (d : CpuId). HasHome ps (home.Cpu d)) (sym last) cpu))
    (λ d at. cc) cpu

-- Naps and channels.

changes_woken : (ps : List Part) (w : Work) (s : State) (n : ℕ) (t : ThreadId) (at : Put) → AreAmong (put_parts w t at) ps → ChangesOnly ps s (woken w s n t.0 at)
unfolding woken
changes_woken ps w s n t at all = changes_then ps s _ _ (changes_class ps s t.0 _ (all _ (inl refl))) (changes_put ps w _ n t at all)

changes_napped : (ps : List Part) (w : Work) (s : State) (c : CpuId) (t : ℕ) → HasThread ps t → HasCpu ps c.0 → ChangesOnly ps s (napped w s c t)
unfolding napped
changes_napped ps w s c t is cpu = changes_then ps s _ _ (changes_leave ps s c t _ is cpu (λ d at. cc) cpu) (changes_finish ps w _ t is)

changes_asleep : (ps : List Part) (w : Work) (s : State) (n : ℕ) (c : CpuId) (t : ℕ) (k : ChanId) → HasThread ps t → HasCpu ps c.0 → HasHome ps (home.Sleepers (k.0 % 64)) → ChangesOnly ps s (fallen_asleep w s n c t k)
unfolding fallen_asleep
changes_asleep ps w s n c t k is cpu chain = changes_then ps s _ _ (changes_leave ps s c t _ is chain (λ d at. cc) cpu) (changes_finish ps w _ t is)

changes_woke : (ps : List Part) (w : Work) (s : State) (n t : ℕ) (u : Option (ThreadId × Put)) → HasThread ps t → ((v : ThreadId × Put) → u ≡ Some v → AreAmong (put_parts w v.0 v.1) ps) → ChangesOnly ps s (woke w s n t u)
unfolding woke
changes_woke ps w s n t None is all = changes_finish ps w s t is
changes_woke ps w s n t (Some u) is all = changes_then ps s _ _ (changes_woken ps w s n u.0 u.1 (all u refl)) (changes_finish ps w _ t is)

changes_woke_all : (ps : List Part) (w : Work) (s : State) (n : ℕ) (c : CpuId) (t : ℕ) (k : ChanId) → HasActor ps c.0 → HasThread ps t → ChangesOnly ps s (woke_all w s n c t k)
unfolding woke_all
changes_woke_all ps w s n c t k actor is =
    changes_then ps s _ _ (changes_either ps s _ _ (is_none (best_sleeper s k.0)) (changes_none ps s) (changes_duty ps s c.0 _ actor)) (changes_finish ps w _ t is)

changes_roused_on : (ps : List Part) (s : State) (c : CpuId) (o : Option ℕ) → HasActor ps c.0 → ChangesOnly ps s (roused_on s c o)
changes_roused_on ps s c None actor = changes_duty ps s c.0 _ actor
changes_roused_on ps s c (Some u) actor = changes_none ps s

changes_roused : (ps : List Part) (w : Work) (s : State) (n : ℕ) (c : CpuId) (k : ChanId) (u : Option (ThreadId × Put)) (d : Duty) → HasActor ps c.0
    → ((v : ThreadId × Put) → u ≡ Some v → AreAmong (put_parts w v.0 v.1) ps) → ChangesOnly ps s (roused w s n c k u d)
unfolding roused
changes_roused ps w s n c k None d actor all = changes_duty ps s c.0 _ actor
changes_roused ps w s n c k (Some u) d actor all = changes_then ps s _ _ (changes_woken ps w s n u.0 u.1 (all u refl)) (changes_roused_on ps _ c _ actor)

-- Locks.

changes_owned : (ps : List Part) (w : Work) (s : State) (t : ℕ) (l : LockId) → HasThread ps t → HasHome ps (home.Chain (l.0 % 64)) → ChangesOnly ps s (owned w s t l)
unfolding owned
changes_owned ps w s t l is chain = changes_then ps s _ _ (changes_lock ps s l.0 _ chain) (changes_then ps _ _ _ (changes_hold ps _ t l is) (changes_finish ps w _ t is))

changes_read : (ps : List Part) (w : Work) (s : State) (t : ℕ) (l : LockId) → HasThread ps t → HasHome ps (home.Chain (l.0 % 64)) → ChangesOnly ps s (read w s t l)
unfolding read
changes_read ps w s t l is chain = changes_then ps s _ _ (changes_lock ps s l.0 _ chain) (changes_then ps _ _ _ (changes_hold ps _ t l is) (changes_finish ps w _ t is))

changes_blocked : (ps : List Part) (w : Work) (s : State) (n : ℕ) (c : CpuId) (t : ℕ) (l : LockId) → HasActor ps c.0 → HasThread ps t → HasCpu ps c.0 → HasHome ps (home.Chain (l.0 % 64)) → ChangesOnly ps s (blocked w s n c t l)
unfolding blocked
changes_blocked ps w s n c t l actor is cpu chain = changes_then ps s _ _ (changes_leave ps s c t _ is chain (λ d at. cc) cpu) (changes_duty ps _ c.0 _ actor)

changes_free : (ps : List Part) (s : State) (c : CpuId) (l : LockId) (d : Duty) → HasActor ps c.0 → HasHome ps (home.Chain (l.0 % 64)) → ChangesOnly ps s (free_or_passed s c l d)
changes_free ps s c l d actor chain =
    changes_either ps s _ _ (has_waiters s l.0) (changes_then ps s _ _ (changes_lock ps s l.0 _ chain) (changes_duty ps _ c.0 d actor)) (changes_lock ps s l.0 _ chain)

changes_release : (ps : List Part) (w : Work) (s : State) (c : CpuId) (l : LockId) (x : LockState) → HasActor ps c.0 → HasHome ps (home.Chain (l.0 % 64)) → ChangesOnly ps s (release_from w s c l x)
changes_release ps w s c l Free actor chain = changes_none ps s
changes_release ps w s c l (Owned o) actor chain = changes_free ps s c l _ actor chain
changes_release ps w s c l (ReadHeld n) actor chain = changes_either ps s _ _ (nat_le n 1) (changes_free ps s c l _ actor chain) (changes_lock ps s l.0 _ chain)
changes_release ps w s c l (Passing d r) actor chain = changes_lock ps s l.0 _ chain

changes_released : (ps : List Part) (w : Work) (s : State) (c : CpuId) (t : ℕ) (l : LockId) → HasActor ps c.0 → HasThread ps t → HasHome ps (home.Chain (l.0 % 64)) → ChangesOnly ps s (released w s c t l)
unfolding released
changes_released ps w s c t l actor is chain = changes_then ps s _ _ (changes_release ps w s c l (lock_of s l.0) actor chain) (changes_let_go ps _ t l is)

changes_exited : (ps : List Part) (w : Work) (s : State) (c : CpuId) (t : ℕ) (l : LockId) → HasActor ps c.0 → HasThread ps t → HasHome ps (home.Chain (l.0 % 64)) → HasCpu ps c.0 → ChangesOnly ps s (exited w s c t l)
unfolding exited
changes_exited ps w s c t l actor is chain cpu =
    changes_then ps s _ _ (changes_released ps w s c t l actor is chain) (changes_then ps _ _ _ (changes_finish ps w _ t is) (changes_remark ps _ c.0 cpu))

changes_unblocked_on : (ps : List Part) (s : State) (c : CpuId) (l : LockId) (b : Bool) → HasActor ps c.0 → HasHome ps (home.Chain (l.0 % 64)) → ChangesOnly ps s (unblocked_on s c l b)
changes_unblocked_on ps s c l true actor chain = changes_none ps s
changes_unblocked_on ps s c l false actor chain = changes_then ps s _ _ (changes_lock ps s l.0 _ chain) (changes_duty ps _ c.0 _ actor)

changes_unblocked : (ps : List Part) (w : Work) (s : State) (n : ℕ) (c : CpuId) (l : LockId) (u : ThreadId) (at : Put) → HasActor ps c.0 → HasHome ps (home.Chain (l.0 % 64)) → AreAmong (put_parts w u at) ps → ChangesOnly ps s (unblocked w s n c l u.0 at)
unfolding unblocked
changes_unblocked ps w s n c l u at actor chain all = changes_then ps s _ _ (changes_woken ps w s n u at all) (changes_unblocked_on ps _ c l _ actor chain)

changes_to_writer : (ps : List Part) (w : Work) (s : State) (n : ℕ) (c : CpuId) (l : LockId) (u : ThreadId) (at : Put) → HasActor ps c.0 → HasHome ps (home.Chain (l.0 % 64)) → AreAmong (put_parts w u at) ps → ChangesOnly ps s (granted_to_writer w s n c l u.0 at)
unfolding granted_to_writer
changes_to_writer ps w s n c l u at actor chain all =
    let is = all _ (inl refl) in
    changes_then ps s _ _ (changes_lock ps s l.0 _ chain) (changes_then ps _ _ _ (changes_hold ps _ u.0 l is) (changes_then ps _ _ _ (changes_finish ps w _ u.0 is)
    (changes_then ps _ _ _ (changes_number ps _ u.0 l _ is) (changes_then ps _ _ _ (changes_woken ps w _ n u at all) (changes_duty ps _ c.0 _ actor)))))

changes_to_reader : (ps : List Part) (w : Work) (s : State) (n : ℕ) (l : LockId) (u : ThreadId) (at : Put) → HasHome ps (home.Chain (l.0 % 64)) → AreAmong (put_parts w u at) ps → ChangesOnly ps s (granted_to_reader w s n l u.0 at)
unfolding granted_to_reader
changes_to_reader ps w s n l u at chain all =
    let is = all _ (inl refl) in
    changes_then ps s _ _ (changes_lock ps s l.0 _ chain) (changes_then ps _ _ _ (changes_hold ps _ u.0 l is) (changes_then ps _ _ _ (changes_finish ps w _ u.0 is) (changes_woken ps w _ n u at all)))

changes_granted : (ps : List Part) (w : Work) (s : State) (n : ℕ) (c : CpuId) (l : LockId) (u : ThreadId) (at : Put) (d : Duty) → HasActor ps c.0 → HasHome ps (home.Chain (l.0 % 64)) → AreAmong (put_parts w u at) ps → ChangesOnly ps s (granted w s n c l u.0 at d)
changes_granted ps w s n c l u at (duty.GrantWriter m) actor chain all = changes_to_writer ps w s n c l u at actor chain all
changes_granted ps w s n c l u at _ actor chain all = changes_to_reader ps w s n l u at chain all

changes_passed_on : (ps : List Part) (s : State) (c : CpuId) (l : LockId) (x : LockState) → HasActor ps c.0 → HasHome ps (home.Chain (l.0 % 64)) → ChangesOnly ps s (passed_on s c l x)
changes_passed_on ps s c l (Passing d r) actor chain =
    changes_either ps s _ _ (nat_lt 0 r) (changes_then ps s _ _ (changes_lock ps s l.0 _ chain) (changes_duty ps _ c.0 _ actor))
    (changes_either ps s _ _ (is_some (best_waiter s l.0 Writer)) (changes_duty ps s c.0 _ actor) (changes_then ps s _ _ (changes_lock ps s l.0 _ chain) (changes_duty ps _ c.0 _ actor)))
changes_passed_on ps s c l _ actor chain = changes_duty ps s c.0 _ actor

changes_passed : (ps : List Part) (s : State) (c : CpuId) (l : LockId) → HasActor ps c.0 → HasHome ps (home.Chain (l.0 % 64)) → ChangesOnly ps s (passed s c l)
unfolding passed
changes_passed ps s c l actor chain = changes_passed_on ps s c l (lock_of s l.0) actor chain

-- A thread whose priority has changed where it stands.

changes_put_where : (ps : List Part) (w : Work) (s : State) (n : ℕ) (t : ThreadId) (at : Option Put) → AreAmong (put_parts_if w t at) ps → ChangesOnly ps s (put_where w s n t.0 at)
unfolding put_where
changes_put_where ps w s n t None all = changes_none ps s
changes_put_where ps w s n t (Some at) all = changes_put ps w s n t at all

changes_reordered_at : (ps : List Part) (w : Work) (first s : State) (n : ℕ) (t : ThreadId) (old : ℕ) (at : Option Put) (place : Place) → AreAmong (reordered_parts w first t at place) ps → ChangesOnly ps s (reordered_at w s n t.0 old at place)
changes_reordered_at ps w first s n t old at (Running x) all = changes_either ps s _ _ (nat_lt (eff_of s t.0) old) (changes_remark ps s x.0 (all _ (inr (inl refl)))) (changes_none ps s)
changes_reordered_at ps w first s n t old at _ all = changes_put_where ps w s n t at (λ p is. all p (inr is))

changes_reordered : (ps : List Part) (w : Work) (first s : State) (n : ℕ) (t : ThreadId) (old : ℕ) (at : Option Put) → (thread_of s t.0).place ≡ (thread_of first t.0).place
    → AreAmong (reordered_parts w first t at (thread_of first t.0).place) ps → ChangesOnly ps s (reordered w s n t.0 old at)
unfolding reordered
changes_reordered ps w first s n t old at same all =
    changes_reordered_at ps w first s n t old at (thread_of s t.0).place (subst (λ (p : Place). AreAmong (reordered_parts w first t at p) ps) (sym same) all)

changes_walked : (ps : List Part) (s : State) (c : CpuId) (l : LockId) (o : ThreadId) → HasActor ps c.0 → HasThread ps o.0 → ChangesOnly ps s (walked s c l o)
changes_walked ps s c l o actor is =
    changes_then ps s _ _ (changes_number ps s o.0 l _ is) (changes_then ps _ _ _ (changes_looped ps _ o.0 _ is) (changes_duty ps _ c.0 _ actor))

-- the thread is the first part of those that it touches where it stands
reordered_thread : (ps : List Part) (w : Work) (s : State) (t : ThreadId) (at : Option Put) (place : Place) → AreAmong (reordered_parts w s t at place) ps → HasThread ps t.0
reordered_thread ps w s t at (Running d) all = all _ (inl refl)
reordered_thread ps w s t at _ all = all _ (inl refl)

changes_willed : (ps : List Part) (w : Work) (s : State) (n : ℕ) (c : CpuId) (l : LockId) (o : ThreadId) (at : Option Put) → HasActor ps c.0 → AreAmong (reordered_parts w s o at (thread_of s o.0).place) ps → ChangesOnly ps s (willed w s n c l o at)
unfolding willed
changes_willed ps w s n c l o at actor all =
    changes_then ps s _ _ (changes_walked ps s c l o actor (reordered_thread ps w s o at (thread_of s o.0).place all)) (changes_reordered ps w s _ n o _ at (place_kept s c l o) all)

changes_walk_ended : (ps : List Part) (s : State) (c : CpuId) → HasActor ps c.0 → ChangesOnly ps s (walk_ended s c)
unfolding walk_ended
changes_walk_ended ps s c actor = changes_duty ps s c.0 _ actor

changes_walk_from : (ps : List Part) (s : State) (c : CpuId) (u : ThreadId) (place : Place) → HasActor ps c.0 → ChangesOnly ps s (walk_from s c u place)
changes_walk_from ps s c u (Waiting l side k) actor = changes_duty ps s c.0 _ actor
changes_walk_from ps s c u _ actor = changes_none ps s

changes_by : (ps : List Part) (w : Work) (s : State) (n : ℕ) (c : CpuId) (u : ThreadId) (at : Option Put) (r : Result ClassParms Denied) → HasActor ps c.0 → AreAmong (reordered_parts w s u at (thread_of s u.0).place) ps → ChangesOnly ps s (changed_by w s n c u at r)
changes_by ps w s n c u at (Err d) actor all = changes_none ps s
changes_by ps w s n c u at (Ok parms) actor all =
    changes_then ps s _ _ (changes_class ps s u.0 _ (reordered_thread ps w s u at (thread_of s u.0).place all))
    (changes_then ps _ _ _ (changes_reordered ps w s _ n u _ at (class_place s u.0 u.0 _) all) (changes_walk_from ps _ c u _ actor))

changes_on : (ps : List Part) (w : Work) (s : State) (n : ℕ) (c : CpuId) (t : ℕ) (u : ThreadId) (at : Option Put) (o : Option Op) → HasActor ps c.0 → AreAmong (reordered_parts w s u at (thread_of s u.0).place) ps → ChangesOnly ps s (changed_on w s n c t u at o)
changes_on ps w s n c t u at (Some (op.Prio v r)) actor all = changes_by ps w s n c u at (answer_to w s t u.0 r) actor all
changes_on ps w s n c t u at _ actor all = changes_none ps s

changes_prio : (ps : List Part) (w : Work) (s : State) (n : ℕ) (c : CpuId) (t : ℕ) (u : ThreadId) (answer : PrioAnswer) → HasActor ps c.0 → HasThread ps t → AreAmong (prio_parts w s c u answer) ps → ChangesOnly ps s (reprioritised w s n c t u answer)
unfolding reprioritised
changes_prio ps w s n c t u (Changed p at) actor is all =
    changes_then ps s _ _ (changes_on ps w s n c t u at (op_of w t (thread_of s t).body) actor (λ q q_is. all q (inr (inr q_is)))) (changes_finish ps w _ t is)
changes_prio ps w s n c t u (Refused d) actor is all = changes_finish ps w s t is

put_on_cpu : (ps : List Part) (w : Work) (t : ThreadId) (c : CpuId) → HasThread ps t.0 → HasCpu ps c.0 → AreAmong (put_parts w t (Cpu c)) ps
put_on_cpu ps w t c is cpu p (inl e) = subst (λ q. IsAmong q ps) (sym e) is
put_on_cpu ps w t c is cpu p (inr (inl e)) = subst (λ q. IsAmong q ps) (sym e) cpu
put_on_cpu ps w t c is cpu p (inr (inr none)) = absurd none

changes_lifted : (ps : List Part) (w : Work) (s : State) (n : ℕ) (c : CpuId) (t : ThreadId) (old : ℕ) → HasThread ps t.0 → HasCpu ps c.0 → ChangesOnly ps s (lifted w s n c t.0 old)
changes_lifted ps w s n c t old is cpu = changes_either ps s _ _ (eff_of s t.0 == old) (changes_none ps s) (changes_put ps w s n t (Cpu c) (put_on_cpu ps w t c is cpu))

changes_aged : (ps : List Part) (w : Work) (s : State) (n : ℕ) (c : CpuId) (t : ThreadId) → HasActor ps c.0 → HasThread ps t.0 → HasCpu ps c.0 → ChangesOnly ps s (aged w s n c t.0)
unfolding aged
changes_aged ps w s n c t actor is cpu =
    changes_then ps s _ _ (changes_class ps s t.0 _ is) (changes_then ps _ _ _ (changes_lifted ps w _ n c t _ is cpu) (changes_duty ps _ c.0 _ actor))

-- Condition variables and semaphores.

changes_cv : (ps : List Part) (w : Work) (s : State) (n : ℕ) (c : CpuId) (t : ℕ) (k : ChanId) (l : LockId) → HasActor ps c.0 → HasHome ps (home.Chain (l.0 % 64)) → HasCpu ps c.0 → HasHome ps (home.Sleepers (k.0 % 64)) → HasThread ps t → ChangesOnly ps s (cv_waited w s n c t k l)
unfolding cv_waited
changes_cv ps w s n c t k l actor chain cpu sleepers is = changes_then ps s _ _ (changes_released ps w s c t l actor is chain) (changes_asleep ps w _ n c t k is cpu sleepers)

changes_taken : (ps : List Part) (w : Work) (s : State) (t : ℕ) (k : ChanId) → HasHome ps (home.Sleepers (k.0 % 64)) → HasThread ps t → ChangesOnly ps s (sema_taken w s t k)
unfolding sema_taken
changes_taken ps w s t k chain is = changes_then ps s _ _ (changes_count ps s k.0 _ chain) (changes_finish ps w _ t is)

changes_counted : (ps : List Part) (w : Work) (s : State) (t : ℕ) (k : ChanId) → HasHome ps (home.Sleepers (k.0 % 64)) → HasThread ps t → ChangesOnly ps s (sema_counted w s t k)
unfolding sema_counted
changes_counted ps w s t k chain is = changes_then ps s _ _ (changes_count ps s k.0 _ chain) (changes_finish ps w _ t is)

changes_handed : (ps : List Part) (w : Work) (s : State) (n t : ℕ) (u : ThreadId) (at : Put) → HasThread ps t → AreAmong (put_parts w u at) ps → ChangesOnly ps s (sema_handed w s n t u.0 at)
unfolding sema_handed
changes_handed ps w s n t u at is all = changes_then ps s _ _ (changes_woken ps w s n u at all) (changes_finish ps w _ t is)

-- Sets and bindings.

changes_cleared : (ps : List Part) (s : State) (d : CpuId) (r : Option ℕ) → HasCpu ps d.0 → ChangesOnly ps s (cleared s d r)
changes_cleared ps s d None cpu = changes_none ps s
changes_cleared ps s d (Some r) cpu = changes_kernel_mark ps s d.0 cpu

changes_assigned : (ps : List Part) (w : Work) (s : State) (t : ℕ) (d : CpuId) (to : SetId) (answer : AssignAnswer) → HasThread ps t → HasCpu ps d.0 → HasHome ps (home.RealTime (cpu_of s d.0).set) → ChangesOnly ps s (assigned w s t d to answer)
unfolding assigned
changes_assigned ps w s t d to assign.Changed is cpu set =
    changes_then ps s _ _ (changes_close ps s d to cpu set) (changes_then ps _ _ _ (changes_cleared ps _ d _ cpu) (changes_finish ps w _ t is))
changes_assigned ps w s t d to assign.EPERM is cpu set = changes_finish ps w s t is
changes_assigned ps w s t d to assign.EINVAL is cpu set = changes_finish ps w s t is
changes_assigned ps w s t d to assign.EBUSY is cpu set = changes_finish ps w s t is

changes_moved : (ps : List Part) (w : Work) (s : State) (n : ℕ) (t : ThreadId) (at : Put) → AreAmong (put_parts w t at) ps → ChangesOnly ps s (moved w s n t.0 at)
unfolding moved
changes_moved ps w s n t at all = changes_put ps w s n t at all

changes_joined : (ps : List Part) (s : State) (c : CpuId) (to : SetId) → HasCpu ps c.0 → HasHome ps (home.RealTime to) → ChangesOnly ps s (joined s c to)
unfolding joined
changes_joined ps s c to cpu set = changes_join ps s c to cpu set

changes_called : (ps : List Part) (s : State) (d : CpuId) (place : Place) → AreAmong (runs_parts place) ps → ChangesOnly ps s (called_back s d place)
changes_called ps s d (Running c) all = changes_either ps s _ _ (c.0 == d.0) (changes_none ps s) (changes_kernel_mark ps s c.0 (all _ (inl refl)))
changes_called ps s d _ all = changes_none ps s

changes_rebound : (ps : List Part) (s : State) (u : ThreadId) (d b : Option CpuId) → b ≡ (thread_of s u.0).body.bound → HasThread ps u.0 → AreAmong (rebound_parts s u d) ps → ChangesOnly ps s (rebound s u.0 d b)
changes_rebound ps s u (Some d) b at is all =
    changes_then ps s _ _ (changes_bind ps s u.0 d is (all _ (inl refl))) (changes_called ps _ d _ (λ p p_is. all p (inr p_is)))
changes_rebound ps s u None (Some b) at is all = changes_unbind ps s u.0 b is (subst (λ (o : Option CpuId). AreAmong (bound_parts o) ps) (sym at) all _ (inl refl))
changes_rebound ps s u None None at is all = changes_none ps s

changes_pbound : (ps : List Part) (w : Work) (s : State) (n t : ℕ) (u : ThreadId) (d : Option CpuId) (answer : BindAnswer) → HasThread ps t → AreAmong (bind_parts w s u d answer) ps → ChangesOnly ps s (pbound w s n t u.0 d answer)
unfolding pbound
changes_pbound ps w s n t u d (bind_answer.Changed at) is all =
    changes_then ps s _ _ (changes_rebound ps s u d _ refl (all _ (inl refl)) (λ p p_is. all p (inr (among_left p (rebound_parts s u d) (put_parts_if w u at) p_is))))
    (changes_then ps _ _ _ (changes_put_where ps w _ n u at (λ p p_is. all p (inr (among_right p (rebound_parts s u d) (put_parts_if w u at) p_is)))) (changes_finish ps w _ t is))
changes_pbound ps w s n t u d bind_answer.ESRCH is all = changes_finish ps w s t is
changes_pbound ps w s n t u d bind_answer.EINVAL is all = changes_finish ps w s t is
changes_pbound ps w s n t u d bind_answer.EPERM is all = changes_finish ps w s t is
changes_pbound ps w s n t u d bind_answer.EBUSY is all = changes_finish ps w s t is

-- The events.

-- the thread that ends is named by its processor
abbrev pub EndsHere : State → CpuId → Event → Type 0
EndsHere s c (Done t) = ((thread_of s t.0).place ≡ Running c) × RanThere (thread_of s t.0)
EndsHere s c _ = Unit {0}

-- an event leaves as it was what is not among its processor's count and duty and the parts that it touches
pub effect_changes : (ps : List Part) (w : Work) (s : State) (n : ℕ) (c : CpuId) (e : Event) → HasActor ps c.0 → EndsHere s c e → AreAmong (touched w s c e) ps → ChangesOnly ps s (effect w s n c e)
unfolding effect
effect_changes ps w s n c (Tick t) actor here all = changes_ticked ps w s c.0 t.0 actor (all _ (inr (inl refl))) (all _ (inr (inr (inl refl))))
effect_changes ps w s n c (Spin t l) actor here all = changes_spun ps w s c.0 t.0 actor (all _ (inr (inl refl))) (all _ (inr (inr (inl refl))))
effect_changes ps w s n c Idle actor here all = changes_idled ps w s c.0 actor
effect_changes ps w s n c (Dispatch t p) actor here all = changes_dispatched ps s c t.0 (all _ (inl refl)) (all _ (inr (inl refl)))
effect_changes ps w s n c (Steal v t p) actor here all = changes_stolen ps s c t.0 (all _ (inl refl)) (all _ (inr (inl refl)))
effect_changes ps w s n c (Preempt t end) actor here all = changes_preempted ps w s n c t.0 end (all _ (inl refl)) (all _ (inr (inr (inl refl)))) (all _ (inr (inr (inr (inl refl)))))
effect_changes ps w s n c (Away t d) actor here all = changes_away ps s n c t.0 d (all _ (inr (inl refl))) (all _ (inr (inr (inl refl)))) (all _ (inr (inr (inr (inl refl)))))
effect_changes ps w s n c (Yield t) actor here all = changes_yielded ps w s n c t.0 (all _ (inl refl)) (all _ (inr (inr (inl refl)))) (all _ (inr (inr (inr (inl refl)))))
effect_changes ps w s n c (Done t) actor here all = changes_done ps s c t.0 here.0 (here.1 c here.0) (all _ (inr (inl refl)))
effect_changes ps w s n c (Nap t) actor here all = changes_napped ps w s c t.0 (all _ (inr (inr (inl refl)))) (all _ (inr (inl refl)))
effect_changes ps w s n c (Napend t at) actor here all = changes_woken ps w s n t at all
effect_changes ps w s n c (Wake t k u) actor here all = changes_woke ps w s n t.0 u (all _ (inl refl)) (λ v is. λ p p_is. all p (inr (subst (λ o. IsAmong p (woken_parts w o)) (sym is) p_is)))
effect_changes ps w s n c (Wakeall t k) actor here all = changes_woke_all ps w s n c t.0 k actor (all _ (inr (inr (inl refl))))
effect_changes ps w s n c (Rouse k u) actor here all = changes_roused ps w s n c k u (cpu_of s c.0).duty actor (λ v is. λ p p_is. all p (inr (inr (subst (λ o. IsAmong p (woken_parts w o)) (sym is) p_is))))
effect_changes ps w s n c (Enter t l) actor here all = changes_owned ps w s t.0 l (all _ (inr (inl refl))) (all _ (inl refl))
effect_changes ps w s n c (Read t l) actor here all = changes_read ps w s t.0 l (all _ (inr (inl refl))) (all _ (inl refl))
effect_changes ps w s n c (Write t l) actor here all = changes_owned ps w s t.0 l (all _ (inr (inl refl))) (all _ (inl refl))
effect_changes ps w s n c (Block t l) actor here all = changes_blocked ps w s n c t.0 l actor (all _ (inr (inr (inr (inl refl))))) (all _ (inr (inl refl))) (all _ (inr (inr (inl refl))))
effect_changes ps w s n c (Will l o p at) actor here all = changes_willed ps w s n c l o at actor (λ q is. all q (inr (inr is)))
effect_changes ps w s n c (WalkEnd l) actor here all = changes_walk_ended ps s c actor
effect_changes ps w s n c (Exit t l) actor here all = changes_exited ps w s c t.0 l actor (all _ (inr (inr (inl refl)))) (all _ (inr (inl refl))) (all _ (inr (inr (inr (inl refl)))))
effect_changes ps w s n c (Unblock l u at) actor here all = changes_unblocked ps w s n c l u at actor (all _ (inr (inl refl))) (λ p is. all p (inr (inr is)))
effect_changes ps w s n c (Grant l u at) actor here all = changes_granted ps w s n c l u at (cpu_of s c.0).duty actor (all _ (inr (inl refl))) (λ p is. all p (inr (inr is)))
effect_changes ps w s n c (Passed l) actor here all = changes_passed ps s c l actor (all _ (inr (inl refl)))
effect_changes ps w s n c (Age t p) actor here all = changes_aged ps w s n c t actor (all _ (inl refl)) (all _ (inr (inl refl)))
effect_changes ps w s n c (Prio t u answer) actor here all = changes_prio ps w s n c t.0 u answer actor (all _ (inl refl)) (λ p is. all p (inr is))
effect_changes ps w s n c (CvWait t k l) actor here all = changes_cv ps w s n c t.0 k l actor (all _ (inr (inl refl))) (all _ (inr (inr (inl refl)))) (all _ (inr (inr (inr (inl refl))))) (all _ (inr (inr (inr (inr (inl refl))))))
effect_changes ps w s n c (SemaP t k) actor here all = changes_taken ps w s t.0 k (all _ (inl refl)) (all _ (inr (inl refl)))
effect_changes ps w s n c (SemaVWake t k u at) actor here all = changes_handed ps w s n t.0 u at (all _ (inl refl)) (λ p is. all p (inr is))
effect_changes ps w s n c (SemaVCount t k m) actor here all = changes_counted ps w s t.0 k (all _ (inl refl)) (all _ (inr (inl refl)))
effect_changes ps w s n c (Assign t d to answer) actor here all = changes_assigned ps w s t.0 d to answer (all _ (inl refl)) (all _ (inr (inl refl))) (all _ (inr (inr (inl refl))))
effect_changes ps w s n c (Move t at) actor here all = changes_moved ps w s n t at all
effect_changes ps w s n c (Joined to) actor here all = changes_joined ps s c to (all _ (inl refl)) (all _ (inr (inl refl)))
effect_changes ps w s n c (Bind t u d answer) actor here all = changes_pbound ps w s n t.0 u d answer (all _ (inl refl)) (λ p is. all p (inr is))
-- where a thread falls asleep
effect_changes ps w s n c _ actor here all = changes_asleep ps w s n c _ _ (all _ (inr (inr (inr (inl refl))))) (all _ (inr (inl refl))) (all _ (inr (inr (inl refl))))

-- the threads of a state in which an ageing is dropped are those of the state
ends_dropped : (s : State) (c : CpuId) (e f : Event) → EndsHere s c f → EndsHere (drop_ageing s c.0 e) c f
unfolding drop_ageing set_duty
ends_dropped s c e (Done t) here = here
ends_dropped s c e _ here = tt

changes_dropped : (ps : List Part) (s : State) (c : CpuId) (e : Event) → HasActor ps c.0 → ChangesOnly ps s (drop_ageing s c.0 e)
unfolding drop_ageing
changes_dropped ps s c e actor = changes_duty ps s c.0 _ actor

pub after_changes : (w : Work) (s : State) (n : ℕ) (c : CpuId) (e : Event) → EndsHere s c e → ChangesOnly (after_parts w s c e) s (after w s n c e)
unfolding after
after_changes w s n c e here =
    changes_then (after_parts w s c e) s _ _ (changes_dropped (after_parts w s c e) s c e (inl refl))
    (effect_changes (after_parts w s c e) w (drop_ageing s c.0 e) n c e (inl refl) (ends_dropped s c e e here)
    (λ p is. inr (subst (λ qs. IsAmong p qs) (touched_dropped w s c e) is)))
