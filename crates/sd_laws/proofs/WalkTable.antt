-- The walks of processors: every event but those that begin, take on or end one leaves them.
use Rattle.std.proofs.Common.{◌≡◌, ℕ, ◌+◌, ◌-◌, ◌%◌, Bool, true, false, Option, Some, None, refl, sym, subst, ap, ◌∙◌, inl, inr}
use Rattle.std.specs.Prelude.{if◌then◌else◌, is_some, nat_lt, nat_le, ◌==◌}
use Rattle.sd_types.specs.declared.numbers.ChanId.{ChanId}
use Rattle.sd_types.specs.declared.numbers.CpuId.{CpuId}
use Rattle.sd_types.specs.declared.numbers.LockId.{LockId}
use Rattle.sd_types.specs.declared.numbers.Side.TheVariants.{Writer, Reader}
use Rattle.sd_types.specs.declared.numbers.ThreadId.{ThreadId}
use Rattle.sd_types.specs.declared.events.Duty.{Duty}
use Rattle.sd_types.specs.declared.events.Duty.TheVariants as duty
use Rattle.sd_types.specs.declared.events.Event.{Event}
use Rattle.sd_types.specs.declared.events.Event.TheVariants.{Tick, Spin, Idle, Dispatch, Steal, Yield, Done, Nap, Napend, Sleep, Wakeall, Rouse, Block, Will, End as WalkEnd, Exit, Unblock, Grant, Passed, Age, Prio, CvWait}
use Rattle.sd_types.specs.declared.events.Put.{Put}
use Rattle.sd_types.specs.declared.works.Work.{Work}
use Rattle.sd_types.specs.Works.{is_mutex}
use Rattle.sd_machine.specs.Graphs as G
use Rattle.sd_state.specs.declared.states.LockState.{LockState}
use Rattle.sd_state.specs.declared.states.LockState.TheVariants.{Free, Owned, ReadHeld, Passing}
use Rattle.sd_state.specs.declared.states.CpuState.{CpuState}
use Rattle.sd_state.specs.declared.states.State.{State}
use Rattle.sd_state.specs.States.{thread_of, cpu_of, eff_of}
use Rattle.sd_machine.specs.Threads.{lock_of, with_lock, best_waiter, best_sleeper_below, priority_of, has_waiters}
use Rattle.sd_machine.specs.Bodies.{aged_class}
use Rattle.sd_machine.specs.Changes.{set_class, set_duty, duty_after, count_tick}
use Rattle.sd_machine.specs.Sleeping.{woken, roused_on, rouse_key, roused}
use Rattle.sd_machine.specs.Locking.{kind_of, writer_first, after_reader, after_owner, free_or_passed, release_from, unblocked_on, passed_on, passed}
use Rattle.sd_machine.specs.Prioritising.{lifted, aged}
use Rattle.sd_machine.specs.LockGraph.{walk_of}
use Rattle.std.specs.List.{list_all}
use Rattle.sd_machine.specs.Deeds.{Deed, CountsTick, FreesLock, FreesLast, GrantsLock, PassesLock, BeginsWalk, WalksOn, EndsDuty, OrdersWake, Rouses, Lifts, Reclasses, did, deeds}
use Rattle.sd_machine.proofs.DeedLemmas.{all_keep, effect_did}
use Rattle.sd_machine.specs.Events.{keeps_ageing, dropped_duty, drop_ageing, effect, after}
use Rattle.sd_frames.specs.Causes.{GivesWay, IsCause}
use Rattle.sd_frames.proofs.CpuWords as C
use Rattle.sd_frames.proofs.LockTable.{leaves_duty}
use Rattle.sd_frames.proofs.Made.{Kind, Dutied, Ticked}

abbrev pub walk_part : CpuState → Option G.Walk
walk_part x = walk_of x.duty

pub walk_marks : C.Markless walk_part
walk_marks = record { marks = λ x u k. refl }

abbrev pub Walks : State → State → Type 0
Walks s r = C.Kept walk_part s r

-- a duty that is no walk, for one that is none
duty_walks : (s : State) (c : ℕ) (d : Duty) → walk_of d ≡ None → walk_of (cpu_of s c).duty ≡ None → Walks s (set_duty s c d)
unfolding set_duty
duty_walks s c d none free = C.written walk_part s c _ (none ∙ sym free)

-- the same behind changes that leave the walks
then_duty : (s r : State) (c : ℕ) (d : Duty) → Walks s r → walk_of d ≡ None → walk_of (cpu_of s c).duty ≡ None → Walks s (set_duty r c d)
then_duty s r c d a none free = C.then_kept walk_part s r _ a (duty_walks r c d none (a.each c ∙ free))

pub free_walks : (d : Duty) → GivesWay d → walk_of d ≡ None
free_walks duty.Nothing f = refl
free_walks (duty.Age u) f = refl
free_walks d f = absurd f

-- Dropped ageing.

dropped_walks : (e : Event) (d : Duty) → walk_of (dropped_duty e d) ≡ walk_of d
dropped_walks e (duty.Age u) = elim (keeps_ageing e) as (λ b. walk_of (if b then duty.Age u else duty.Nothing) ≡ None) [ true ↦ refl | false ↦ refl ]
dropped_walks e d = refl

pub drop_walks : (s : State) (c : ℕ) (e : Event) → Walks s (drop_ageing s c e)
unfolding drop_ageing set_duty
drop_walks s c e = C.written walk_part s c _ (dropped_walks e (cpu_of s c).duty)

-- Ticks.

after_tick_walks : (w : Work) (n : ℕ) (d : Duty) → walk_of d ≡ None → walk_of (duty_after w n d) ≡ None
after_tick_walks w n d free = elim ((n % w.hz) == 0) as (λ b. walk_of (if b then duty.Age (record { 0 = 0 }) else d) ≡ None) [ true ↦ refl | false ↦ free ]

count_tick_walks : (w : Work) (s : State) (c : ℕ) → walk_of (cpu_of s c).duty ≡ None → Walks s (count_tick w s c)
unfolding count_tick
count_tick_walks w s c free = C.written walk_part s c _ (after_tick_walks w ((cpu_of s c).count + 1) (cpu_of s c).duty free ∙ sym free)

-- Sleepers.

roused_walks : (w : Work) (s : State) (n : ℕ) (c : CpuId) (k : ChanId) (u : Option (ThreadId × Put)) (d : Duty) → walk_of (cpu_of s c.0).duty ≡ None → Walks s (roused w s n c k u d)
unfolding roused
roused_walks w s n c k None d free = duty_walks s c.0 duty.Nothing refl free
roused_walks w s n c k (Some u) d free = by (best_sleeper_below (woken w s n u.0.0 u.1) k.0 (rouse_key d)) (C.woken_kept walk_part walk_marks w s n u.0.0 u.1)
  where
    by : (o : Option ℕ) → Walks s (woken w s n u.0.0 u.1) → Walks s (roused_on (woken w s n u.0.0 u.1) c o)
    by None a = then_duty s (woken w s n u.0.0 u.1) c.0 duty.Nothing a refl free
    by (Some v) a = a

aged_walks : (w : Work) (s : State) (n : ℕ) (c : CpuId) (t : ℕ) → walk_of (cpu_of s c.0).duty ≡ None → Walks s (aged w s n c t)
unfolding aged
aged_walks w s n c t free =
    then_duty s (lifted w (set_class s t (aged_class w (thread_of s t).body.class)) n c t (eff_of s t)) c.0 _
    (C.then_kept walk_part s _ _ (C.set_class_kept walk_part walk_marks s t _) (C.lifted_kept walk_part walk_marks w _ n c t _)) refl free

-- Locks.

passing_walks : (l : LockId) (b : Bool) → walk_of (if b then duty.GrantWriter l else duty.GrantReaders l) ≡ None
passing_walks l true = refl
passing_walks l false = refl

owner_walks : (w : Work) (s : State) (l : LockId) → walk_of (after_owner w s l) ≡ None
owner_walks w s l = by (is_mutex (kind_of w l)) (writer_first (priority_of s (best_waiter s l.0 Writer)) (priority_of s (best_waiter s l.0 Reader)))
  where
    by : (a b : Bool) → walk_of (if a then duty.WakeMutex l else if b then duty.GrantWriter l else duty.GrantReaders l) ≡ None
    by true b = refl
    by false b = passing_walks l b

free_or_passed_walks : (s : State) (c : CpuId) (l : LockId) (d : Duty) → walk_of d ≡ None → walk_of (cpu_of s c.0).duty ≡ None → Walks s (free_or_passed s c l d)
free_or_passed_walks s c l d none free = by (has_waiters s l.0)
  where
    by : (b : Bool) → Walks s (if b then set_duty (with_lock s l.0 (Passing c 0)) c.0 d else with_lock s l.0 Free)
    by true = then_duty s (with_lock s l.0 (Passing c 0)) c.0 d (C.lock_kept walk_part s l.0 _) none free
    by false = C.lock_kept walk_part s l.0 Free

release_walks : (w : Work) (s : State) (c : CpuId) (l : LockId) (x : LockState) → walk_of (cpu_of s c.0).duty ≡ None → Walks s (release_from w s c l x)
release_walks w s c l Free free = C.same_kept walk_part s
release_walks w s c l (Owned o) free = free_or_passed_walks s c l (after_owner w s l) (owner_walks w s l) free
release_walks w s c l (ReadHeld n) free = by (nat_le n 1)
  where
    by : (b : Bool) → Walks s (if b then free_or_passed s c l (after_reader s l) else with_lock s l.0 (ReadHeld (n - 1)))
    by true = free_or_passed_walks s c l (after_reader s l) (passing_walks l (is_some (best_waiter s l.0 Writer))) free
    by false = C.lock_kept walk_part s l.0 _
release_walks w s c l (Passing d r) free = C.lock_kept walk_part s l.0 _

passed_on_walks : (s : State) (c : CpuId) (l : LockId) (x : LockState) → walk_of (cpu_of s c.0).duty ≡ None → Walks s (passed_on s c l x)
passed_on_walks s c l (Passing d r) free = by (nat_lt 0 r) (is_some (best_waiter s l.0 Writer))
  where
    by : (a b : Bool) → Walks s (if a then set_duty (with_lock s l.0 (ReadHeld r)) c.0 duty.Nothing else if b then set_duty s c.0 (duty.GrantWriter l) else set_duty (with_lock s l.0 Free) c.0 duty.Nothing)
    by true b = then_duty s (with_lock s l.0 (ReadHeld r)) c.0 duty.Nothing (C.lock_kept walk_part s l.0 _) refl free
    by false true = duty_walks s c.0 (duty.GrantWriter l) refl free
    by false false = then_duty s (with_lock s l.0 Free) c.0 duty.Nothing (C.lock_kept walk_part s l.0 Free) refl free
passed_on_walks s c l _ free = duty_walks s c.0 duty.Nothing refl free

passed_walks : (s : State) (c : CpuId) (l : LockId) → walk_of (cpu_of s c.0).duty ≡ None → Walks s (passed s c l)
unfolding passed
passed_walks s c l free = passed_on_walks s c l (lock_of s l.0) free

walk_left : (k : Kind) → leaves_duty k ≡ true → C.Leaves walk_part k
walk_left Dutied is = cc
walk_left Ticked is = cc
walk_left _ is = λ x y. refl

-- Each event.

-- the deed begins no walk, takes none on and ends none; a grant is left out, whose duty says what it does
abbrev pub leaves_walk : Deed → Bool
leaves_walk (BeginsWalk t l) = false
leaves_walk (WalksOn l o at) = false
leaves_walk EndsDuty = false
leaves_walk (Reclasses t u answer) = false
leaves_walk (GrantsLock l u at) = false
leaves_walk _ = true

abbrev pub keeps_walks : Event → Bool
keeps_walks e = list_all leaves_walk (deeds e)

last_walks : (s : State) (c : CpuId) (l : LockId) (b : Bool) → walk_of (cpu_of s c.0).duty ≡ None → Walks s (unblocked_on s c l b)
last_walks s c l true free = C.same_kept walk_part s
last_walks s c l false free = then_duty s (with_lock s l.0 Free) c.0 duty.Nothing (C.lock_kept walk_part s l.0 Free) refl free

deed_walks : (w : Work) (n : ℕ) (c : CpuId) (s : State) (d : Deed) → leaves_walk d ≡ true → walk_of (cpu_of s c.0).duty ≡ None → Walks s (did w n c s d)
deed_walks w n c s CountsTick keeps free = count_tick_walks w s c.0 free
deed_walks w n c s (OrdersWake k) keeps free = C.either_kept walk_part walk_marks s _ _ _ (C.same_kept walk_part s) (duty_walks s c.0 _ refl free)
deed_walks w n c s (Rouses k u) keeps free = roused_walks w s n c k u (cpu_of s c.0).duty free
deed_walks w n c s (FreesLock l) keeps free = release_walks w s c l (lock_of s l.0) free
deed_walks w n c s (FreesLast l) keeps free = last_walks s c l (has_waiters s l.0) free
deed_walks w n c s (PassesLock l) keeps free = passed_walks s c l free
deed_walks w n c s (Lifts t) keeps free = aged_walks w s n c t free
deed_walks w n c s (BeginsWalk t l) keeps free = cc
deed_walks w n c s (WalksOn l o at) keeps free = cc
deed_walks w n c s EndsDuty keeps free = cc
deed_walks w n c s (Reclasses t u answer) keeps free = cc
deed_walks w n c s (GrantsLock l u at) keeps free = cc
deed_walks w n c s d keeps free = C.deed_left walk_part leaves_duty walk_left w n c s d refl

effect_walks : (w : Work) (s : State) (n : ℕ) (c : CpuId) (e : Event) → keeps_walks e ≡ true → walk_of (cpu_of s c.0).duty ≡ None → Walks s (effect w s n c e)
effect_walks w s n c e keeps free = subst (λ r. Walks s r) (sym (effect_did w s n c e))
    (all_keep w n c {R = λ r q. walk_of (cpu_of r c.0).duty ≡ None → Walks r q} (λ r f. C.same_kept walk_part r) (λ r q x a b f. C.then_kept walk_part r q x (a f) (b ((a f).each c.0 ∙ f)))
    leaves_walk (λ r d is. deed_walks w n c r d is) s (deeds e) keeps free)

pub after_walks : (w : Work) (s : State) (n : ℕ) (c : CpuId) (e : Event) → keeps_walks e ≡ true → walk_of (cpu_of s c.0).duty ≡ None → Walks s (after w s n c e)
unfolding after
after_walks w s n c e keeps free =
    let a = drop_walks s c.0 e in
    C.then_kept walk_part s (drop_ageing s c.0 e) _ a (effect_walks w _ n c e keeps (a.each c.0 ∙ free))

-- What a processor does but to take a walk on or to end it, it does where it walks along no chain.

abbrev pub is_walking : Event → Bool
is_walking (Will l o p at) = true
is_walking (WalkEnd l) = true
is_walking _ = false

pub cause_walks : (w : Work) (s : State) (c : ℕ) (e : Event) → is_walking e ≡ false → IsCause w s c e → walk_of (cpu_of s c).duty ≡ None
cause_walks w s c (Tick t) quiet cause = free_walks (cpu_of s c).duty cause.0.1.free
cause_walks w s c (Spin t l) quiet cause = free_walks (cpu_of s c).duty cause.0.1.acts.free
cause_walks w s c Idle quiet cause = free_walks (cpu_of s c).duty cause.0.idle.free
cause_walks w s c (Dispatch t p) quiet cause = free_walks (cpu_of s c).duty cause.0.idle.free
cause_walks w s c (Steal v t p) quiet cause = free_walks (cpu_of s c).duty cause.0.idle.free
cause_walks w s c (Yield t) quiet cause = free_walks (cpu_of s c).duty cause.free
cause_walks w s c (Done t) quiet cause = free_walks (cpu_of s c).duty cause.free
cause_walks w s c (Nap t) quiet cause = free_walks (cpu_of s c).duty cause.1.free
cause_walks w s c (Napend t at) quiet cause = free_walks (cpu_of s c).duty cause.2
cause_walks w s c (Sleep t k) quiet cause = free_walks (cpu_of s c).duty cause.free
cause_walks w s c (Wakeall t k) quiet cause = free_walks (cpu_of s c).duty cause.free
cause_walks w s c (Rouse k u) quiet cause = ap walk_of cause.1
cause_walks w s c (Block t l) quiet cause = free_walks (cpu_of s c).duty cause.1.acts.free
cause_walks w s c (Will l o p at) quiet cause = cc
cause_walks w s c (WalkEnd l) quiet cause = cc
cause_walks w s c (Exit t l) quiet cause = free_walks (cpu_of s c).duty cause.free
cause_walks w s c (Unblock l u at) quiet cause = ap walk_of cause.0
cause_walks w s c (Grant l u at) quiet (inl cause) = ap walk_of cause.0
cause_walks w s c (Grant l u at) quiet (inr cause) = ap walk_of cause.0
cause_walks w s c (Passed l) quiet cause = ap walk_of cause.0
cause_walks w s c (Age t p) quiet cause = ap walk_of cause.1
cause_walks w s c (Prio t u answer) quiet cause = free_walks (cpu_of s c).duty cause.1.free
cause_walks w s c (CvWait t k l) quiet cause = free_walks (cpu_of s c).duty cause.free
cause_walks w s c e quiet cause = free_walks (cpu_of s c).duty cause.0.free
