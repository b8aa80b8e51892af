-- What holds of every duty that wakes nobody, and of each duty to wake sleepers where it begins, holds of every duty; so only
-- sleepers on channels that are no semaphores are woken by such a duty.
use Rattle.std.proofs.Common.{◌≡◌, ℕ, zero, suc, ◌+◌, ◌-◌, ◌%◌, Bool, true, false, ◌||◌, ◌&&◌, List, [], ◌∷◌, length, get_or, Option, Some, None, refl, sym, subst, inl, inr}
use Rattle.std.specs.Prelude.{⊤, ℤ, if◌then◌else◌, is_some, int_lt, nat_lt, nat_le, ◌==◌, map, Result, Ok, Err}
use Rattle.std.specs.Ordering.{int_eq}
use Rattle.std.specs.List.{range_with_len}
use Rattle.std.proofs.lemmas.Bool.{cases_lt}
use Rattle.std.proofs.lemmas.List.{set_past}
use Rattle.sd_types.specs.declared.numbers.ChanId.{ChanId}
use Rattle.sd_types.specs.declared.numbers.CpuId.{CpuId}
use Rattle.sd_types.specs.declared.numbers.LockId.{LockId}
use Rattle.sd_types.specs.declared.numbers.Side.TheVariants.{Writer, Reader}
use Rattle.sd_types.specs.declared.numbers.ThreadId.{ThreadId}
use Rattle.sd_types.specs.declared.classes.ClassParms.{ClassParms}
use Rattle.sd_types.specs.declared.events.Denied.{Denied}
use Rattle.sd_types.specs.declared.events.Duty.{Duty}
use Rattle.sd_types.specs.declared.events.Duty.TheVariants as duty
use Rattle.sd_types.specs.declared.events.Event.{Event}
use Rattle.sd_types.specs.declared.events.Event.TheVariants.{Wakeall}
use Rattle.sd_types.specs.declared.events.PrioAnswer.TheVariants.{Changed, Refused}
use Rattle.sd_types.specs.declared.events.Put.{Put}
use Rattle.sd_types.specs.declared.scripts.Op.{Op}
use Rattle.sd_types.specs.declared.scripts.Op.TheVariants as op
use Rattle.sd_types.specs.declared.works.Work.{Work}
use Rattle.sd_types.specs.Works.{is_chan, is_mutex}
use Rattle.sd_machine.proofs.Moves.{put_cases}
use Rattle.sd_state.specs.declared.states.Place.{Place}
use Rattle.sd_state.specs.declared.states.Place.TheVariants.{Running, Queued, RealTime, Waiting, Asleep, Napping, Ended}
use Rattle.sd_state.specs.declared.states.LockState.{LockState}
use Rattle.sd_state.specs.declared.states.LockState.TheVariants.{Free, Owned, ReadHeld, Passing}
use Rattle.sd_state.specs.declared.states.CpuState.{CpuState}
use Rattle.sd_state.specs.declared.states.State.{State}
use Rattle.sd_state.specs.States.{no_cpu, thread_of, cpu_of, with_cpu, eff_of}
use Rattle.sd_state.specs.Operations.{op_of}
use Rattle.sd_state.specs.Opening.{first_cpu_state, opening}
use Rattle.sd_machine.specs.Threads.{thread_id, lock_of, with_lock, best_waiter, best_sleeper_below, priority_of, has_waiters, greatest_waiting}
use Rattle.sd_machine.specs.Bodies.{aged_class}
use Rattle.sd_machine.specs.Changes.{back_key, finish_op, set_class, hold, set_number, set_looped, set_duty, duty_after, counted, count_tick}
use Rattle.sd_machine.specs.Sleeping.{woken, roused_on, rouse_key, roused}
use Rattle.sd_machine.specs.Locking.{kind_of, writer_first, after_reader, after_owner, free_or_passed, release_from, others_waiting, unblocked_on, granted_to_writer, granted, passed_on, passed}
use Rattle.sd_machine.specs.Requeueing.{reordered}
use Rattle.sd_machine.specs.Walking.{is_back, next_walk, walked, willed}
use Rattle.sd_machine.specs.Prioritising.{answer_to, new_class, walk_from, changed_by, changed_on, lifted, aged}
use Rattle.sd_machine.specs.Events.{keeps_ageing, dropped_duty, drop_ageing, effect, after}
use Rattle.sd_frames.specs.Causes.{IsCause}
use Rattle.sd_invariants.specs.Laws.{HoldsWhenReached}
use Rattle.sd_frames.proofs.CpuWords as C
use Rattle.sd_frames.proofs.LockTable as T
use Rattle.sd_frames.proofs.LockTable.{duty_part, duty_marks, leaves_duty, duty_left}
use Rattle.sd_frames.proofs.Parts.{put_item}
use Rattle.sd_invariants.proofs.Ready.{kept_reached}
use Rattle.sd_invariants.proofs.Works.{op_named}
use Rattle.sd_laws.specs.HistoryLaws.{chan_kind}
use Rattle.sd_machine.specs.Deeds.{Deed, CountsTick, OrdersWake, Rouses, BeginsWalk, WalksOn, EndsDuty, FreesLock, FreesLast, GrantsLock, PassesLock, Lifts, Reclasses, did, deeds}
use Rattle.sd_machine.proofs.DeedLemmas.{AllAlong, effect_did, keeps_along, quiet_along}

-- a duty to wake sleepers
abbrev is_rousing : Duty → Bool
is_rousing (duty.Rouse k below) = true
is_rousing _ = false

module _ (Q : Duty → Type 0) (plain : (d : Duty) → is_rousing d ≡ false → Q d) where
  -- it holds of the duty of each processor
  abbrev Hold : State → Type 0
  Hold s = (c : ℕ) → Q (cpu_of s c).duty

  kept : (s r : State) → C.Kept duty_part s r → Hold s → Hold r
  kept s r a h d = subst Q (sym (a.each d)) (h d)

  written : (s : State) (c : ℕ) (x : CpuState) → Q x.duty → Hold s → Hold (with_cpu s c x)
  written s c x is h d = elim (cases_lt c (length s.cpus)) [
    | inl here ↦ elim (put_cases c x.duty _ _ (put_item duty_part s.cpus no_cpu c x here) d) [
      | inl me ↦ subst Q (sym me.1) is
      | inr other ↦ subst Q (sym other.1) (h d)
    ]
    | inr past ↦ subst (λ (xs : List CpuState). Q (get_or xs d no_cpu).duty) (sym (set_past s.cpus c x past)) (h d)
  ]

  set_to : (s : State) (c : ℕ) (d : Duty) → Q d → Hold s → Hold (set_duty s c d)
  unfolding set_duty
  set_to s c d is h = written s c (record (cpu_of s c) { duty = d }) is h

  -- a duty that wakes nobody
  set_plain : (s : State) (c : ℕ) (d : Duty) → is_rousing d ≡ false → Hold s → Hold (set_duty s c d)
  set_plain s c d none h = set_to s c d (plain d none) h

  -- Ticks.

  after_tick : (w : Work) (n : ℕ) (d : Duty) → Q d → Q (duty_after w n d)
  after_tick w n d is = elim ((n % w.hz) == 0) as (λ b. Q (if b then duty.Age (record { 0 = 0 }) else d)) [ true ↦ plain (duty.Age (record { 0 = 0 })) refl | false ↦ is ]

  count_tick_hold : (w : Work) (s : State) (c : ℕ) → Hold s → Hold (count_tick w s c)
  unfolding count_tick
  count_tick_hold w s c h = written s c (counted w (cpu_of s c)) (after_tick w ((cpu_of s c).count + 1) (cpu_of s c).duty (h c)) h

  -- Sleepers.

  orders_hold : (s : State) (n : ℕ) (c : CpuId) (k : ChanId) (b : Bool) → Q (duty.Rouse k (back_key n)) → Hold s → Hold (if b then s else set_duty s c.0 (duty.Rouse k (back_key n)))
  orders_hold s n c k true is h = h
  orders_hold s n c k false is h = set_to s c.0 (duty.Rouse k (back_key n)) is h

  roused_hold : (w : Work) (s : State) (n : ℕ) (c : CpuId) (k : ChanId) (u : Option (ThreadId × Put)) (d : Duty) → Hold s → Hold (roused w s n c k u d)
  unfolding roused
  roused_hold w s n c k None d h = set_plain s c.0 duty.Nothing refl h
  roused_hold w s n c k (Some u) d h = by (best_sleeper_below (woken w s n u.0.0 u.1) k.0 (rouse_key d)) (kept s _ (T.woken_duties w s n u.0.0 u.1) h)
    where
      by : (o : Option ℕ) → Hold (woken w s n u.0.0 u.1) → Hold (roused_on (woken w s n u.0.0 u.1) c o)
      by None g = set_plain (woken w s n u.0.0 u.1) c.0 duty.Nothing refl g
      by (Some v) g = g

  -- Walks.

  next_plain : (d : Duty) (o : ThreadId) (looped : Bool) (p : Place) → is_rousing (next_walk d o looped p) ≡ false
  next_plain (duty.Walk l seek key) o looped (Waiting m side k) = by (looped || ((seek.0 == o.0) && int_eq key k)) (int_lt key k)
    where
      by : (a b : Bool) → is_rousing (if a then duty.Nothing else if b then duty.Walk m o k else duty.Walk m seek key) ≡ false
      by true b = refl
      by false true = refl
      by false false = refl
  next_plain (duty.Walk l seek key) o looped (Running c) = refl
  next_plain (duty.Walk l seek key) o looped (Queued c k) = refl
  next_plain (duty.Walk l seek key) o looped (RealTime q k) = refl
  next_plain (duty.Walk l seek key) o looped (Asleep j k) = refl
  next_plain (duty.Walk l seek key) o looped (Napping c due) = refl
  next_plain (duty.Walk l seek key) o looped Ended = refl
  next_plain duty.Nothing o looped p = refl
  next_plain (duty.WakeMutex l) o looped p = refl
  next_plain (duty.GrantWriter l) o looped p = refl
  next_plain (duty.GrantReaders l) o looped p = refl
  next_plain (duty.Rouse k below) o looped p = refl
  next_plain (duty.Age u) o looped p = refl

  willed_hold : (w : Work) (s : State) (n : ℕ) (c : CpuId) (l : LockId) (o : ThreadId) (at : Option Put) → Hold s → Hold (willed w s n c l o at)
  unfolding willed
  willed_hold w s n c l o at h =
      let before : C.Kept duty_part s (set_looped (set_number s o.0 l (greatest_waiting l.0 s.threads)) o.0 ((thread_of s o.0).body.looped || is_back (cpu_of s c.0).duty o (thread_of s o.0).place)) =
      C.then_kept duty_part s _ _ (C.set_number_kept duty_part duty_marks s o.0 l _) (C.set_looped_kept duty_part duty_marks _ o.0 _) in
      kept (walked s c l o) _ (C.reordered_kept duty_part duty_marks w _ n o.0 _ at)
      (set_plain _ c.0 (next_walk (cpu_of s c.0).duty o (thread_of s o.0).body.looped (thread_of s o.0).place)
      (next_plain (cpu_of s c.0).duty o (thread_of s o.0).body.looped (thread_of s o.0).place) (kept s _ before h))

  walk_from_hold : (s : State) (c : CpuId) (u : ThreadId) (p : Place) → Hold s → Hold (walk_from s c u p)
  walk_from_hold s c u (Waiting l side k) h = set_plain s c.0 (duty.Walk l u k) refl h
  walk_from_hold s c u p h = h

  changed_by_hold : (w : Work) (s : State) (n : ℕ) (c : CpuId) (u : ThreadId) (at : Option Put) (r : Result ClassParms Denied) → Hold s → Hold (changed_by w s n c u at r)
  changed_by_hold w s n c u at (Err d) h = h
  changed_by_hold w s n c u at (Ok parms) h =
      walk_from_hold (reordered w (set_class s u.0 (new_class w s u.0 parms)) n u.0 (eff_of s u.0) at) c u (thread_of s u.0).place
      (kept s _ (C.then_kept duty_part s _ _ (C.set_class_kept duty_part duty_marks s u.0 (new_class w s u.0 parms)) (C.reordered_kept duty_part duty_marks w _ n u.0 (eff_of s u.0) at)) h)

  changed_on_hold : (w : Work) (s : State) (n : ℕ) (c : CpuId) (t : ℕ) (u : ThreadId) (at : Option Put) (o : Option Op) → Hold s → Hold (changed_on w s n c t u at o)
  changed_on_hold w s n c t u at (Some (op.Prio v r)) h = changed_by_hold w s n c u at (answer_to w s t u.0 r) h
  changed_on_hold w s n c t u at _ h = h

  aged_hold : (w : Work) (s : State) (n : ℕ) (c : CpuId) (t : ℕ) → Hold s → Hold (aged w s n c t)
  unfolding aged
  aged_hold w s n c t h =
      set_plain (lifted w (set_class s t (aged_class w (thread_of s t).body.class)) n c t (eff_of s t)) c.0 (duty.Age (record { 0 = t + 1 })) refl
      (kept s _ (C.then_kept duty_part s _ _ (C.set_class_kept duty_part duty_marks s t (aged_class w (thread_of s t).body.class)) (C.lifted_kept duty_part duty_marks w _ n c t (eff_of s t))) h)

  -- Locks.

  writer_plain : (l : LockId) (b : Bool) → is_rousing (if b then duty.GrantWriter l else duty.GrantReaders l) ≡ false
  writer_plain l true = refl
  writer_plain l false = refl

  owner_plain : (w : Work) (s : State) (l : LockId) → is_rousing (after_owner w s l) ≡ false
  owner_plain w s l = by (is_mutex (kind_of w l)) (writer_first (priority_of s (best_waiter s l.0 Writer)) (priority_of s (best_waiter s l.0 Reader)))
    where
      by : (a b : Bool) → is_rousing (if a then duty.WakeMutex l else if b then duty.GrantWriter l else duty.GrantReaders l) ≡ false
      by true b = refl
      by false b = writer_plain l b

  free_or_passed_hold : (s : State) (c : CpuId) (l : LockId) (d : Duty) → is_rousing d ≡ false → Hold s → Hold (free_or_passed s c l d)
  free_or_passed_hold s c l d none h = by (has_waiters s l.0)
    where
      by : (b : Bool) → Hold (if b then set_duty (with_lock s l.0 (Passing c 0)) c.0 d else with_lock s l.0 Free)
      by true = set_plain (with_lock s l.0 (Passing c 0)) c.0 d none h
      by false = h

  release_hold : (w : Work) (s : State) (c : CpuId) (l : LockId) (x : LockState) → Hold s → Hold (release_from w s c l x)
  release_hold w s c l Free h = h
  release_hold w s c l (Owned o) h = free_or_passed_hold s c l (after_owner w s l) (owner_plain w s l) h
  release_hold w s c l (ReadHeld n) h = by (nat_le n 1)
    where
      by : (b : Bool) → Hold (if b then free_or_passed s c l (after_reader s l) else with_lock s l.0 (ReadHeld (n - 1)))
      by true = free_or_passed_hold s c l (after_reader s l) (writer_plain l (is_some (best_waiter s l.0 Writer))) h
      by false = h
  release_hold w s c l (Passing d r) h = h

  last_hold : (s : State) (c : CpuId) (l : LockId) (b : Bool) → Hold s → Hold (unblocked_on s c l b)
  last_hold s c l true h = h
  last_hold s c l false h = set_plain (with_lock s l.0 Free) c.0 duty.Nothing refl h

  granted_to_writer_hold : (w : Work) (s : State) (n : ℕ) (c : CpuId) (l : LockId) (u : ℕ) (at : Put) → Hold s → Hold (granted_to_writer w s n c l u at)
  unfolding granted_to_writer
  granted_to_writer_hold w s n c l u at h =
      let x : State = set_number (finish_op w (hold (with_lock s l.0 (Owned (thread_id u))) u l) u) u l (others_waiting s l u) in
      let before : C.Kept duty_part s x = C.then_kept duty_part s _ _ (C.lock_kept duty_part s l.0 (Owned (thread_id u))) (C.then_kept duty_part _ _ _ (C.hold_kept duty_part duty_marks _ u l)
      (C.then_kept duty_part _ _ _ (C.finish_op_kept duty_part duty_marks w _ u) (C.set_number_kept duty_part duty_marks _ u l (others_waiting s l u)))) in
      set_plain (woken w x n u at) c.0 duty.Nothing refl (kept s _ (C.then_kept duty_part s x _ before (T.woken_duties w x n u at)) h)

  granted_hold : (w : Work) (s : State) (n : ℕ) (c : CpuId) (l : LockId) (u : ℕ) (at : Put) (d : Duty) → Hold s → Hold (granted w s n c l u at d)
  granted_hold w s n c l u at (duty.GrantWriter m) h = granted_to_writer_hold w s n c l u at h
  granted_hold w s n c l u at _ h = kept s _ (T.granted_to_reader_duties w s n l u at) h

  passed_on_hold : (s : State) (c : CpuId) (l : LockId) (x : LockState) → Hold s → Hold (passed_on s c l x)
  passed_on_hold s c l (Passing d r) h = by (nat_lt 0 r) (is_some (best_waiter s l.0 Writer))
    where
      by : (a b : Bool) → Hold (if a then set_duty (with_lock s l.0 (ReadHeld r)) c.0 duty.Nothing else if b then set_duty s c.0 (duty.GrantWriter l) else set_duty (with_lock s l.0 Free) c.0 duty.Nothing)
      by true b = set_plain (with_lock s l.0 (ReadHeld r)) c.0 duty.Nothing refl h
      by false true = set_plain s c.0 (duty.GrantWriter l) refl h
      by false false = set_plain (with_lock s l.0 Free) c.0 duty.Nothing refl h
  passed_on_hold s c l _ h = set_plain s c.0 duty.Nothing refl h

  passed_hold : (s : State) (c : CpuId) (l : LockId) → Hold s → Hold (passed s c l)
  unfolding passed
  passed_hold s c l h = passed_on_hold s c l (lock_of s l.0) h

  -- Each deed: a duty to wake sleepers begins by an order alone.

  abbrev Begins : ℕ → Deed → Type 0
  Begins n (OrdersWake k) = Q (duty.Rouse k (back_key n))
  Begins n _ = ⊤

  deed_hold : (w : Work) (n : ℕ) (c : CpuId) (s : State) (d : Deed) → Begins n d → Hold s → Hold (did w n c s d)
  deed_hold w n c s CountsTick begins h = count_tick_hold w s c.0 h
  deed_hold w n c s (OrdersWake k) begins h = orders_hold s n c k _ begins h
  deed_hold w n c s (Rouses k u) begins h = roused_hold w s n c k u (cpu_of s c.0).duty h
  deed_hold w n c s (BeginsWalk t l) begins h = set_plain s c.0 (duty.Walk l (thread_id t) (back_key n)) refl h
  deed_hold w n c s (WalksOn l o at) begins h = willed_hold w s n c l o at h
  deed_hold w n c s EndsDuty begins h = set_plain s c.0 duty.Nothing refl h
  deed_hold w n c s (FreesLock l) begins h = release_hold w s c l (lock_of s l.0) h
  deed_hold w n c s (FreesLast l) begins h = last_hold s c l (has_waiters s l.0) h
  deed_hold w n c s (GrantsLock l u at) begins h = granted_hold w s n c l u at (cpu_of s c.0).duty h
  deed_hold w n c s (PassesLock l) begins h = passed_hold s c l h
  deed_hold w n c s (Lifts t) begins h = aged_hold w s n c t h
  deed_hold w n c s (Reclasses t u (Changed p at)) begins h = changed_on_hold w s n c t u at (op_of w t (thread_of s t).body) h
  deed_hold w n c s (Reclasses t u (Refused denied)) begins h = h
  deed_hold w n c s d begins h = kept s _ (C.deed_left duty_part leaves_duty duty_left w n c s d refl) h

  effect_hold : (w : Work) (s : State) (n : ℕ) (c : CpuId) (e : Event) → AllAlong w n c (λ r d. Begins n d) s (deeds e) → Hold s → Hold (effect w s n c e)
  effect_hold w s n c e begins h = subst Hold (sym (effect_did w s n c e)) (keeps_along w n c Hold (λ r d. Begins n d) (λ r d asks held. deed_hold w n c r d asks held) s (deeds e) begins h)

  dropped_hold : (e : Event) (d : Duty) → Q d → Q (dropped_duty e d)
  dropped_hold e (duty.Age u) is = elim (keeps_ageing e) as (λ b. Q (if b then duty.Age u else duty.Nothing)) [ true ↦ is | false ↦ plain duty.Nothing refl ]
  dropped_hold e d is = is

  drop_hold : (s : State) (c : ℕ) (e : Event) → Hold s → Hold (drop_ageing s c e)
  unfolding drop_ageing
  drop_hold s c e h = set_to s c (dropped_duty e (cpu_of s c).duty) (dropped_hold e (cpu_of s c).duty (h c)) h

  after_hold : (w : Work) (s : State) (n : ℕ) (c : CpuId) (e : Event) → AllAlong w n c (λ r d. Begins n d) (drop_ageing s c.0 e) (deeds e) → Hold s → Hold (after w s n c e)
  unfolding after
  after_hold w s n c e begins h = effect_hold w (drop_ageing s c.0 e) n c e begins (drop_hold s c.0 e h)

-- Only channels that are no semaphores have their sleepers woken by a duty.

abbrev pub RousesChan : Work → Duty → Type 0
RousesChan w (duty.Rouse k below) = is_chan (chan_kind w k.0) ≡ true
RousesChan w _ = ⊤

plain_rouses : (w : Work) (d : Duty) → is_rousing d ≡ false → RousesChan w d
plain_rouses w (duty.Rouse k below) none = cc
plain_rouses w _ none = tt

first_duties : (w : Work) (xs : List ℕ) (c : ℕ) → RousesChan w (get_or (map (first_cpu_state w) xs) c no_cpu).duty
unfolding first_cpu_state
first_duties w [] c = tt
first_duties w (x ∷ xs) zero = tt
first_duties w (x ∷ xs) (suc c) = first_duties w xs c

abbrev pub RousingChans : Work → State → Type 0
RousingChans w s = (c : ℕ) → RousesChan w (cpu_of s c).duty

pub opening_rousing : (w : Work) → RousingChans w (opening w)
unfolding opening
opening_rousing w c = first_duties w (range_with_len 0 w.cpus) c

pub rouses_chan : (w : Work) (s : State) (c : ℕ) (k : ChanId) (below : ℤ) → RousingChans w s → (cpu_of s c).duty ≡ duty.Rouse k below → is_chan (chan_kind w k.0) ≡ true
rouses_chan w s c k below h is = subst (RousesChan w) is (h c)

abbrev orders_none : Deed → Bool
orders_none (OrdersWake k) = false
orders_none _ = true

none_begins : (w : Work) (n : ℕ) (d : Deed) → orders_none d ≡ true → Begins (RousesChan w) (plain_rouses w) n d
none_begins w n (OrdersWake k) none = cc
none_begins w n _ none = tt

begins_of : (w : Work) (s r : State) (n : ℕ) (c : CpuId) (e : Event) → IsCause w s c.0 e → AllAlong w n c (λ q d. Begins (RousesChan w) (plain_rouses w) n d) r (deeds e)
begins_of w s r n c (Wakeall t k) cause = (op_named w t.0 (thread_of s t.0).body.op (op.WakeAll k) cause.stands, (tt, tt))
begins_of w s r n c e cause = quiet_along w n c (λ q d. Begins (RousesChan w) (plain_rouses w) n d) orders_none (λ q d none. none_begins w n d none) r (deeds e) refl

pub rousing_after : (w : Work) (s : State) (n : ℕ) (c : CpuId) (e : Event) → IsCause w s c.0 e → RousingChans w s → RousingChans w (after w s n c e)
rousing_after w s n c e cause h = after_hold (RousesChan w) (plain_rouses w) w s n c e (begins_of w s (drop_ageing s c.0 e) n c e cause) h

pub rousing_reached : HoldsWhenReached RousingChans
rousing_reached = kept_reached RousingChans (record { start = opening_rousing; step = λ w s n c e ready cause h. rousing_after w s n c e cause h })
