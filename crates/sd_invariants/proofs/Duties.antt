-- The locks, channels and threads that duties name are there.
use Rattle.std.proofs.Common.{◌≡◌, refl, ℕ, zero, suc, ◌+◌, ◌-◌, ◌%◌, ◌<◌, ◌≤◌, Bool, true, false, ◌||◌, List, [], ◌∷◌, length, get_or, Option, Some, None, sym, subst, inl, inr, arith}
use Rattle.std.specs.Prelude.{⊤, if◌then◌else◌, is_some, int_lt, nat_lt, nat_le, ◌==◌, map, Result, Ok, Err, ◌&&◌}
use Rattle.std.specs.Ordering.{int_eq}
use Rattle.std.specs.List.{range_with_len}
use Rattle.std.proofs.lemmas.Bool.{cases_lt}
use Rattle.std.proofs.lemmas.List.{set_past}
use Rattle.sd_types.specs.declared.numbers.ChanId.{ChanId}
use Rattle.sd_types.specs.declared.numbers.CpuId.{CpuId}
use Rattle.sd_types.specs.declared.numbers.LockId.{LockId}
use Rattle.sd_types.specs.declared.numbers.Side.TheVariants.{Writer, Reader}
use Rattle.sd_types.specs.declared.numbers.ThreadId.{ThreadId}
use Rattle.sd_types.specs.declared.classes.ClassParms.{ClassParms}
use Rattle.sd_types.specs.declared.events.Denied.{Denied}
use Rattle.sd_types.specs.declared.events.Duty.{Duty}
use Rattle.sd_types.specs.declared.events.Duty.TheVariants as duty
use Rattle.sd_types.specs.declared.events.Event.{Event}
use Rattle.sd_types.specs.declared.events.Event.TheVariants.{Wakeall, Block, Will, Grant, Age, Prio}
use Rattle.sd_types.specs.declared.events.PrioAnswer.TheVariants.{Changed, Refused}
use Rattle.sd_types.specs.declared.events.Put.{Put}
use Rattle.sd_types.specs.declared.scripts.Op.{Op}
use Rattle.sd_types.specs.declared.scripts.Op.TheVariants as op
use Rattle.sd_types.specs.declared.works.Work.{Work}
use Rattle.sd_types.specs.Works.{is_mutex}
use Rattle.sd_machine.proofs.Moves.{put_cases}
use Rattle.sd_state.specs.Invariants.{IsPlaceThere}
use Rattle.sd_state.specs.declared.states.Place.{Place}
use Rattle.sd_state.specs.declared.states.Place.TheVariants.{Running, Queued, RealTime, Waiting, Asleep, Napping, Ended}
use Rattle.sd_state.specs.declared.states.LockState.{LockState}
use Rattle.sd_state.specs.declared.states.LockState.TheVariants.{Free, Owned, ReadHeld, Passing}
use Rattle.sd_state.specs.declared.states.CpuState.{CpuState}
use Rattle.sd_state.specs.declared.states.State.{State}
use Rattle.sd_state.specs.States.{no_cpu, thread_of, cpu_of, with_cpu, eff_of}
use Rattle.sd_state.specs.Operations.{op_of}
use Rattle.sd_state.specs.Opening.{first_cpu_state, opening}
use Rattle.sd_machine.specs.Threads.{thread_id, lock_of, with_lock, best_waiter, best_sleeper_below, priority_of, has_waiters, greatest_waiting}
use Rattle.sd_machine.specs.Bodies.{aged_class}
use Rattle.sd_machine.specs.Changes.{back_key, set_class, set_number, set_looped, set_duty, duty_after, counted, count_tick}
use Rattle.sd_machine.specs.Sleeping.{woken, roused_on, rouse_key, roused}
use Rattle.sd_machine.specs.Locking.{kind_of, writer_first, after_reader, after_owner, free_or_passed, release_from, unblocked_on, granted, passed_on, passed}
use Rattle.sd_machine.specs.Requeueing.{reordered}
use Rattle.sd_machine.specs.Walking.{is_back, next_walk, walked, willed}
use Rattle.sd_machine.specs.Prioritising.{answer_to, new_class, walk_from, changed_by, changed_on, lifted, aged}
use Rattle.sd_machine.specs.Deeds.{Deed, CountsTick, OrdersWake, Rouses, BeginsWalk, WalksOn, EndsDuty, FreesLock, FreesLast, GrantsLock, PassesLock, Lifts, Reclasses, did, deeds}
use Rattle.sd_machine.proofs.DeedLemmas.{AllAlong, quiet_along, keeps_along, effect_did}
use Rattle.sd_machine.specs.Events.{keeps_ageing, dropped_duty, drop_ageing, effect, after}
use Rattle.sd_machine.proofs.ShapeLemmas.{set_duty_shape}
use Rattle.sd_frames.specs.Causes.{IsCause}
use Rattle.sd_invariants.specs.Laws.{HoldsWhenReached}
use Rattle.sd_frames.proofs.CpuWords as C
use Rattle.sd_frames.proofs.LockTable as T
use Rattle.sd_frames.proofs.LockTable.{duty_part, duty_marks, leaves_duty, duty_left}
use Rattle.sd_frames.proofs.Found.{runner_found, age_found}
use Rattle.sd_invariants.proofs.Movers.{owner_thread, prio_thread}
use Rattle.sd_frames.proofs.Parts.{put_item}
use Rattle.sd_invariants.proofs.Whole.{IsWhole, reached_whole}
use Rattle.sd_invariants.proofs.Induction.{held_reached}
use Rattle.sd_invariants.proofs.Named.{acts_named, sleep_chan, wants_lock}
use Rattle.sd_invariants.proofs.Places.{PlacesAreThere, places_are_there}

-- A duty to pass a lock on is left out: its lock is one that is being passed on.
abbrev pub IsNamed : Work → Duty → Type 0
IsNamed w (duty.Walk l seek k) = (l.0 < length w.locks) × (seek.0 < length w.threads)
IsNamed w (duty.Rouse j below) = j.0 < length w.chans
IsNamed w (duty.Age u) = u.0 ≤ length w.threads
IsNamed w duty.Nothing = ⊤
IsNamed w (duty.WakeMutex l) = ⊤
IsNamed w (duty.GrantWriter l) = ⊤
IsNamed w (duty.GrantReaders l) = ⊤

abbrev pub DutiesNamed : Work → State → Type 0
DutiesNamed w s = (c : ℕ) → IsNamed w (cpu_of s c).duty

module _ (w : Work) where
  named_kept : (s r : State) → C.Kept duty_part s r → DutiesNamed w s → DutiesNamed w r
  named_kept s r a h d = subst (λ x. IsNamed w x) (sym (a.each d)) (h d)

  named_put : (s r : State) (c : ℕ) (d : Duty) → T.DutyIs s r c d → IsNamed w d → DutiesNamed w s → DutiesNamed w r
  named_put s r c d a is h e = elim (put_cases c d _ _ a.put e) [
    | inl me ↦ subst (λ x. IsNamed w x) (sym me.1) is
    | inr other ↦ subst (λ x. IsNamed w x) (sym other.1) (h e)
  ]

  named_written : (s : State) (c : ℕ) (x : CpuState) → IsNamed w x.duty → DutiesNamed w s → DutiesNamed w (with_cpu s c x)
  named_written s c x is h d = elim (cases_lt c (length s.cpus)) [
    | inl here ↦ named_put s (with_cpu s c x) c x.duty (record { put = put_item duty_part s.cpus no_cpu c x here }) is h d
    | inr past ↦ subst (λ (xs : List CpuState). IsNamed w (get_or xs d no_cpu).duty) (sym (set_past s.cpus c x past)) (h d)
  ]

  named_duty : (s : State) (c : ℕ) (d : Duty) → IsNamed w d → DutiesNamed w s → DutiesNamed w (set_duty s c d)
  unfolding set_duty
  named_duty s c d is h = named_written s c (record (cpu_of s c) { duty = d }) is h

  -- Ticks.

  after_tick : (n : ℕ) (d : Duty) → IsNamed w d → IsNamed w (duty_after w n d)
  after_tick n d is = elim ((n % w.hz) == 0) as (λ b. IsNamed w (if b then duty.Age (record { 0 = 0 }) else d)) [ true ↦ omega arith | false ↦ is ]

  count_tick_named : (s : State) (c : ℕ) → DutiesNamed w s → DutiesNamed w (count_tick w s c)
  unfolding count_tick
  count_tick_named s c h = named_written s c (counted w (cpu_of s c)) (after_tick ((cpu_of s c).count + 1) (cpu_of s c).duty (h c)) h

  -- Sleepers.

  roused_named : (s : State) (n : ℕ) (c : CpuId) (k : ChanId) (u : Option (ThreadId × Put)) (d : Duty) → DutiesNamed w s → DutiesNamed w (roused w s n c k u d)
  unfolding roused
  roused_named s n c k None d h = named_duty s c.0 duty.Nothing tt h
  roused_named s n c k (Some u) d h = by (best_sleeper_below (woken w s n u.0.0 u.1) k.0 (rouse_key d)) (named_kept s _ (T.woken_duties w s n u.0.0 u.1) h)
    where
      by : (o : Option ℕ) → DutiesNamed w (woken w s n u.0.0 u.1) → DutiesNamed w (roused_on (woken w s n u.0.0 u.1) c o)
      by None g = named_duty _ c.0 duty.Nothing tt g
      by (Some v) g = g

  -- Walks.

  next_named : (d : Duty) (o : ThreadId) (looped : Bool) (p : Place) → o.0 < length w.threads → IsPlaceThere w p → IsNamed w d → IsNamed w (next_walk d o looped p)
  next_named (duty.Walk l seek key) o looped (Waiting m side k) inside there is = by (looped || ((seek.0 == o.0) && int_eq key k)) (int_lt key k)
    where
      by : (a b : Bool) → IsNamed w (if a then duty.Nothing else if b then duty.Walk m o k else duty.Walk m seek key)
      by true b = tt
      by false true = (there, inside)
      by false false = (there, is.1)
  next_named (duty.Walk l seek key) o looped (Running c) inside there is = tt
  next_named (duty.Walk l seek key) o looped (Queued c k) inside there is = tt
  next_named (duty.Walk l seek key) o looped (RealTime q k) inside there is = tt
  next_named (duty.Walk l seek key) o looped (Asleep j k) inside there is = tt
  next_named (duty.Walk l seek key) o looped (Napping c due) inside there is = tt
  next_named (duty.Walk l seek key) o looped Ended inside there is = tt
  next_named duty.Nothing o looped p inside there is = tt
  next_named (duty.WakeMutex l) o looped p inside there is = tt
  next_named (duty.GrantWriter l) o looped p inside there is = tt
  next_named (duty.GrantReaders l) o looped p inside there is = tt
  next_named (duty.Rouse k below) o looped p inside there is = tt
  next_named (duty.Age u) o looped p inside there is = tt

  willed_named : (s : State) (n : ℕ) (c : CpuId) (l : LockId) (o : ThreadId) (at : Option Put) → o.0 < length w.threads → IsPlaceThere w (thread_of s o.0).place → DutiesNamed w s → DutiesNamed w (willed w s n c l o at)
  unfolding willed
  willed_named s n c l o at inside there h =
      let before : C.Kept duty_part s (set_looped (set_number s o.0 l (greatest_waiting l.0 s.threads)) o.0 ((thread_of s o.0).body.looped || is_back (cpu_of s c.0).duty o (thread_of s o.0).place)) =
      C.then_kept duty_part s _ _ (C.set_number_kept duty_part duty_marks s o.0 l _) (C.set_looped_kept duty_part duty_marks _ o.0 _) in
      named_kept (walked s c l o) _ (C.reordered_kept duty_part duty_marks w _ n o.0 _ at)
      (named_duty _ c.0 (next_walk (cpu_of s c.0).duty o (thread_of s o.0).body.looped (thread_of s o.0).place)
      (next_named (cpu_of s c.0).duty o (thread_of s o.0).body.looped (thread_of s o.0).place inside there (h c.0)) (named_kept s _ before h))

  walk_from_named : (s : State) (c : CpuId) (u : ThreadId) (p : Place) → u.0 < length w.threads → IsPlaceThere w p → DutiesNamed w s → DutiesNamed w (walk_from s c u p)
  walk_from_named s c u (Waiting l side k) inside there h = named_duty s c.0 (duty.Walk l u k) (there, inside) h
  walk_from_named s c u p inside there h = h

  changed_by_named : (s : State) (n : ℕ) (c : CpuId) (u : ThreadId) (at : Option Put) (r : Result ClassParms Denied) → u.0 < length w.threads → IsPlaceThere w (thread_of s u.0).place → DutiesNamed w s → DutiesNamed w (changed_by w s n c u at r)
  changed_by_named s n c u at (Err d) inside there h = h
  changed_by_named s n c u at (Ok parms) inside there h =
      walk_from_named (reordered w (set_class s u.0 (new_class w s u.0 parms)) n u.0 (eff_of s u.0) at) c u (thread_of s u.0).place inside there
      (named_kept s _ (C.then_kept duty_part s _ _ (C.set_class_kept duty_part duty_marks s u.0 (new_class w s u.0 parms)) (C.reordered_kept duty_part duty_marks w _ n u.0 (eff_of s u.0) at)) h)

  changed_on_named : (s : State) (n : ℕ) (c : CpuId) (t : ℕ) (u : ThreadId) (at : Option Put) (o : Option Op) → u.0 < length w.threads → IsPlaceThere w (thread_of s u.0).place → DutiesNamed w s → DutiesNamed w (changed_on w s n c t u at o)
  changed_on_named s n c t u at (Some (op.Prio v r)) inside there h = changed_by_named s n c u at (answer_to w s t u.0 r) inside there h
  changed_on_named s n c t u at _ inside there h = h

  -- Ageing.

  aged_named : (s : State) (n : ℕ) (c : CpuId) (t : ℕ) → t < length w.threads → DutiesNamed w s → DutiesNamed w (aged w s n c t)
  unfolding aged
  aged_named s n c t inside h =
      named_duty (lifted w (set_class s t (aged_class w (thread_of s t).body.class)) n c t (eff_of s t)) c.0 (duty.Age (record { 0 = t + 1 })) (omega (arith, inside))
      (named_kept s _ (C.then_kept duty_part s _ _ (C.set_class_kept duty_part duty_marks s t (aged_class w (thread_of s t).body.class)) (C.lifted_kept duty_part duty_marks w _ n c t (eff_of s t))) h)

  -- Locks.

  writer_named : (s : State) (l : LockId) (b : Bool) → IsNamed w (if b then duty.GrantWriter l else duty.GrantReaders l)
  writer_named s l true = tt
  writer_named s l false = tt

  owner_named : (s : State) (l : LockId) → IsNamed w (after_owner w s l)
  owner_named s l = by (is_mutex (kind_of w l)) (writer_first (priority_of s (best_waiter s l.0 Writer)) (priority_of s (best_waiter s l.0 Reader)))
    where
      by : (a b : Bool) → IsNamed w (if a then duty.WakeMutex l else if b then duty.GrantWriter l else duty.GrantReaders l)
      by true b = tt
      by false true = tt
      by false false = tt

  free_or_passed_named : (s : State) (c : CpuId) (l : LockId) (d : Duty) → IsNamed w d → DutiesNamed w s → DutiesNamed w (free_or_passed s c l d)
  free_or_passed_named s c l d is h = by (has_waiters s l.0)
    where
      by : (b : Bool) → DutiesNamed w (if b then set_duty (with_lock s l.0 (Passing c 0)) c.0 d else with_lock s l.0 Free)
      by true = named_duty (with_lock s l.0 (Passing c 0)) c.0 d is h
      by false = h

  release_named : (s : State) (c : CpuId) (l : LockId) (x : LockState) → DutiesNamed w s → DutiesNamed w (release_from w s c l x)
  release_named s c l Free h = h
  release_named s c l (Owned o) h = free_or_passed_named s c l (after_owner w s l) (owner_named s l) h
  release_named s c l (ReadHeld n) h = by (nat_le n 1)
    where
      by : (b : Bool) → DutiesNamed w (if b then free_or_passed s c l (after_reader s l) else with_lock s l.0 (ReadHeld (n - 1)))
      by true = free_or_passed_named s c l (after_reader s l) (writer_named s l (is_some (best_waiter s l.0 Writer))) h
      by false = h
  release_named s c l (Passing d r) h = h

  granted_named : (s : State) (n : ℕ) (c : CpuId) (l : LockId) (u : ℕ) (at : Put) (d : Duty) → c.0 < length s.cpus → DutiesNamed w s → DutiesNamed w (granted w s n c l u at d)
  granted_named s n c l u at (duty.GrantWriter m) here h = named_put s _ c.0 duty.Nothing (T.granted_to_writer_duty w s n c l u at here) tt h
  granted_named s n c l u at d here h = named_kept s _ (T.granted_to_reader_duties w s n l u at) h

  passed_on_named : (s : State) (c : CpuId) (l : LockId) (x : LockState) → DutiesNamed w s → DutiesNamed w (passed_on s c l x)
  passed_on_named s c l (Passing d r) h = by (nat_lt 0 r) (is_some (best_waiter s l.0 Writer))
    where
      by : (a b : Bool) → DutiesNamed w (if a then set_duty (with_lock s l.0 (ReadHeld r)) c.0 duty.Nothing else if b then set_duty s c.0 (duty.GrantWriter l) else set_duty (with_lock s l.0 Free) c.0 duty.Nothing)
      by true b = named_duty (with_lock s l.0 (ReadHeld r)) c.0 duty.Nothing tt h
      by false true = named_duty s c.0 (duty.GrantWriter l) tt h
      by false false = named_duty (with_lock s l.0 Free) c.0 duty.Nothing tt h
  passed_on_named s c l Free h = named_duty s c.0 duty.Nothing tt h
  passed_on_named s c l (Owned o) h = named_duty s c.0 duty.Nothing tt h
  passed_on_named s c l (ReadHeld n) h = named_duty s c.0 duty.Nothing tt h

  passed_named : (s : State) (c : CpuId) (l : LockId) → DutiesNamed w s → DutiesNamed w (passed s c l)
  unfolding passed
  passed_named s c l h = passed_on_named s c l (lock_of s l.0) h

  -- Sets and bindings.

  -- Each event.

  -- what an event asks of the places of threads
  abbrev Needs : (ℕ → Place) → Event → Type 0
  Needs places (Wakeall t k) = k.0 < length w.chans
  Needs places (Block t l) = (l.0 < length w.locks) × (t.0 < length w.threads)
  Needs places (Will l o p at) = (o.0 < length w.threads) × IsPlaceThere w (places o.0)
  Needs places (Age t p) = t.0 < length w.threads
  Needs places (Prio t u answer) = (u.0 < length w.threads) × IsPlaceThere w (places u.0)
  Needs places _ = ⊤

  unblocked_on_named : (s : State) (c : CpuId) (l : LockId) (b : Bool) → DutiesNamed w s → DutiesNamed w (unblocked_on s c l b)
  unblocked_on_named s c l true h = h
  unblocked_on_named s c l false h = named_duty (with_lock s l.0 Free) c.0 duty.Nothing tt h

  wake_named : (s : State) (n : ℕ) (c : CpuId) (k : ChanId) (b : Bool) → k.0 < length w.chans → DutiesNamed w s → DutiesNamed w (if b then s else set_duty s c.0 (duty.Rouse k (back_key n)))
  wake_named s n c k true there h = h
  wake_named s n c k false there h = named_duty s c.0 (duty.Rouse k (back_key n)) there h

  -- what a deed asks of the state in which it is done
  abbrev Asks : CpuId → State → Deed → Type 0
  Asks c s (OrdersWake k) = k.0 < length w.chans
  Asks c s (BeginsWalk t l) = (l.0 < length w.locks) × (t < length w.threads)
  Asks c s (WalksOn l o at) = (o.0 < length w.threads) × IsPlaceThere w (thread_of s o.0).place
  Asks c s (Lifts t) = t < length w.threads
  Asks c s (Reclasses t u answer) = (u.0 < length w.threads) × IsPlaceThere w (thread_of s u.0).place
  Asks c s (GrantsLock l u at) = c.0 < length s.cpus
  Asks c s _ = ⊤

  abbrev asks_none : Deed → Bool
  asks_none (OrdersWake k) = false
  asks_none (BeginsWalk t l) = false
  asks_none (WalksOn l o at) = false
  asks_none (Lifts t) = false
  asks_none (Reclasses t u answer) = false
  asks_none (GrantsLock l u at) = false
  asks_none _ = true

  none_asked : (c : CpuId) (s : State) (d : Deed) → asks_none d ≡ true → Asks c s d
  none_asked c s (OrdersWake k) none = cc
  none_asked c s (BeginsWalk t l) none = cc
  none_asked c s (WalksOn l o at) none = cc
  none_asked c s (Lifts t) none = cc
  none_asked c s (Reclasses t u answer) none = cc
  none_asked c s (GrantsLock l u at) none = cc
  none_asked c s _ none = tt

  deed_named : (n : ℕ) (c : CpuId) (s : State) (d : Deed) → Asks c s d → DutiesNamed w s → DutiesNamed w (did w n c s d)
  deed_named n c s CountsTick asks h = count_tick_named s c.0 h
  deed_named n c s (OrdersWake k) asks h = wake_named s n c k _ asks h
  deed_named n c s (Rouses k u) asks h = roused_named s n c k u (cpu_of s c.0).duty h
  deed_named n c s (BeginsWalk t l) asks h = named_duty s c.0 (duty.Walk l (thread_id t) (back_key n)) asks h
  deed_named n c s (WalksOn l o at) asks h = willed_named s n c l o at asks.0 asks.1 h
  deed_named n c s EndsDuty asks h = named_duty s c.0 duty.Nothing tt h
  deed_named n c s (FreesLock l) asks h = release_named s c l (lock_of s l.0) h
  deed_named n c s (FreesLast l) asks h = unblocked_on_named s c l (has_waiters s l.0) h
  deed_named n c s (GrantsLock l u at) asks h = granted_named s n c l u at (cpu_of s c.0).duty asks h
  deed_named n c s (PassesLock l) asks h = passed_named s c l h
  deed_named n c s (Lifts t) asks h = aged_named s n c t asks h
  deed_named n c s (Reclasses t u (Changed p at)) asks h = changed_on_named s n c t u at (op_of w t (thread_of s t).body) asks.0 asks.1 h
  deed_named n c s (Reclasses t u (Refused denied)) asks h = h
  deed_named n c s d asks h = named_kept s _ (C.deed_left duty_part leaves_duty duty_left w n c s d refl) h

  event_asks : (s : State) (n : ℕ) (c : CpuId) (e : Event) → c.0 < length s.cpus → Needs (λ t. (thread_of s t).place) e → AllAlong w n c (Asks c) s (deeds e)
  event_asks s n c (Wakeall t k) here needs = (needs, (tt, tt))
  event_asks s n c (Block t l) here needs = (tt, (needs, tt))
  event_asks s n c (Will l o p at) here needs = (needs, tt)
  event_asks s n c (Grant l u at) here needs = (here, tt)
  event_asks s n c (Age t p) here needs = (needs, tt)
  event_asks s n c (Prio t u answer) here needs = (needs, (tt, tt))
  event_asks s n c e here needs = quiet_along w n c (Asks c) asks_none (none_asked c) s (deeds e) refl

  effect_named : (s : State) (n : ℕ) (c : CpuId) (e : Event) → c.0 < length s.cpus → Needs (λ t. (thread_of s t).place) e → DutiesNamed w s → DutiesNamed w (effect w s n c e)
  effect_named s n c e here needs h = subst (λ r. DutiesNamed w r) (sym (effect_did w s n c e)) (keeps_along w n c (DutiesNamed w) (Asks c) (deed_named n c) s (deeds e) (event_asks s n c e here needs) h)

  dropped_named : (e : Event) (d : Duty) → IsNamed w d → IsNamed w (dropped_duty e d)
  dropped_named e (duty.Age u) is = elim (keeps_ageing e) as (λ b. IsNamed w (if b then duty.Age u else duty.Nothing)) [ true ↦ is | false ↦ tt ]
  dropped_named e duty.Nothing is = tt
  dropped_named e (duty.Walk l seek k) is = is
  dropped_named e (duty.WakeMutex l) is = tt
  dropped_named e (duty.GrantWriter l) is = tt
  dropped_named e (duty.GrantReaders l) is = tt
  dropped_named e (duty.Rouse k below) is = is

  drop_named : (s : State) (c : ℕ) (e : Event) → DutiesNamed w s → DutiesNamed w (drop_ageing s c e)
  unfolding drop_ageing
  drop_named s c e h = named_duty s c (dropped_duty e (cpu_of s c).duty) (dropped_named e (cpu_of s c).duty (h c)) h

  drop_there : (s : State) (c d : ℕ) (e : Event) → d < length s.cpus → d < length (drop_ageing s c e).cpus
  unfolding drop_ageing
  drop_there s c d e here = let many : length (set_duty s c (dropped_duty e (cpu_of s c).duty)).cpus ≡ length s.cpus = (set_duty_shape s c (dropped_duty e (cpu_of s c).duty)).cpus in omega (arith, here, many)

  drop_needs : (s : State) (c : ℕ) (e : Event) → Needs (λ t. (thread_of s t).place) e → Needs (λ t. (thread_of (drop_ageing s c e) t).place) e
  unfolding drop_ageing set_duty
  drop_needs s c e needs = needs

  after_named : (s : State) (n : ℕ) (c : CpuId) (e : Event) → c.0 < length s.cpus → Needs (λ t. (thread_of s t).place) e → DutiesNamed w s → DutiesNamed w (after w s n c e)
  unfolding after
  after_named s n c e here needs h = effect_named (drop_ageing s c.0 e) n c e (drop_there s c.0 c.0 e here) (drop_needs s c.0 e needs) (drop_named s c.0 e h)

  module _ (s : State) (whole : IsWhole w s) (places : PlacesAreThere w s) where
    thread_there : (t : ℕ) → t < length s.threads → t < length w.threads
    thread_there t inside = let many = whole.ready.fits.threads in omega (arith, inside, many)

    needs_of : (c : ℕ) (e : Event) → IsCause w s c e → Needs (λ t. (thread_of s t).place) e
    needs_of c (Wakeall t k) cause = sleep_chan w k (acts_named w s c t.0 (op.WakeAll k) cause)
    needs_of c (Block t l) cause = (wants_lock w s c t.0 l cause.0 cause.1, thread_there t.0 (runner_found s c t.0 cause.1.acts.runs).inside)
    needs_of c (Will l o p at) cause = (thread_there o.0 (owner_thread s l o whole.ready.agreed cause.1), places o.0)
    needs_of c (Age t p) cause = thread_there t.0 (age_found s c (cause.0).0 t.0 cause.2).inside
    needs_of c (Prio t u answer) cause = (thread_there u.0 (prio_thread w s c t.0 u cause.0 whole.ready.fits cause.1), places u.0)
    needs_of c _ cause = tt

first_duties : (w : Work) (xs : List ℕ) (c : ℕ) → IsNamed w (get_or (map (first_cpu_state w) xs) c no_cpu).duty
unfolding first_cpu_state
first_duties w [] c = tt
first_duties w (x ∷ xs) zero = tt
first_duties w (x ∷ xs) (suc c) = first_duties w xs c

opening_duties : (w : Work) → DutiesNamed w (opening w)
unfolding opening
opening_duties w c = first_duties w (range_with_len 0 w.cpus) c

pub duties_named : HoldsWhenReached DutiesNamed
duties_named = held_reached DutiesNamed (record {
  start = opening_duties;
  step = λ w s n c e reached here cause h.
      let whole = reached_whole w n s reached in
      let many : length s.cpus ≡ w.cpus = whole.ready.fits.cpus in
      after_named w s n c e (omega (arith, here, many)) (needs_of w s whole (places_are_there w n s reached) c.0 e cause) h;
})
