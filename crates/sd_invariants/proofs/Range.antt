-- An event of a run has what it needs of its state.
use Rattle.std.proofs.Common.{◌≡◌, ℕ, ◌+◌, ◌<◌, ◌≤◌, ◌^◌, Bool, true, false, not, ◌||◌, List, [], ◌∷◌, length, Option, Some, None, refl, ap, ◌∙◌, sym, subst, inl, inr, arith}
use Rattle.std.specs.Prelude.{filter, if◌then◌else◌, ◌==◌, IfSome, ℤ}
use Rattle.std.specs.List.{Contains}
use Rattle.std.proofs.lemmas.Bool.{or_right}
use Rattle.sd_basics.proofs.Numbers.{same_itself}
use Rattle.sd_types.specs.declared.numbers.ChanId.{ChanId}
use Rattle.sd_types.specs.declared.numbers.CpuId.{CpuId}
use Rattle.sd_types.specs.declared.numbers.LockId.{LockId}
use Rattle.sd_types.specs.declared.numbers.SetId.{SetId}
use Rattle.sd_types.specs.declared.numbers.Side.TheVariants.{Writer, Reader}
use Rattle.sd_types.specs.declared.numbers.ThreadId.{ThreadId}
use Rattle.sd_types.specs.declared.events.BindAnswer.{BindAnswer}
use Rattle.sd_types.specs.declared.events.BindAnswer.TheVariants as bind_answer
use Rattle.sd_types.specs.declared.events.Duty.{Duty}
use Rattle.sd_types.specs.declared.events.Duty.TheVariants as duty
use Rattle.sd_types.specs.declared.events.Event.{Event}
use Rattle.sd_types.specs.declared.events.Event.TheVariants.{Tick, Spin, Idle, Dispatch, Steal, Preempt, Done, Nap, Napend, Wake, Rouse, Enter, Read, Write, Block, Will, End as WalkEnd, Unblock, Grant, Passed, Age, Prio, SemaVWake, SemaVCount, Assign, Move, Joined, Bind, Away}
use Rattle.sd_types.specs.declared.events.Hints.{Hints}
use Rattle.sd_types.specs.declared.events.PrioAnswer.{PrioAnswer}
use Rattle.sd_types.specs.declared.events.PrioAnswer.TheVariants.{Changed, Refused}
use Rattle.sd_types.specs.declared.events.Put.{Put}
use Rattle.sd_types.specs.declared.scripts.Op.{Op}
use Rattle.sd_types.specs.declared.scripts.Op.TheVariants as op
use Rattle.sd_types.specs.declared.scripts.Request.{Request}
use Rattle.sd_types.specs.declared.works.Work.{Work}
use Rattle.sd_rules.proofs.PartitionLemmas.{names-from_Contains}
use Rattle.sd_machine.specs.Holders as H
use Rattle.sd_machine.proofs.HolderLemmas.{count_one}
use Rattle.sd_state.specs.Invariants.{IsPlaceThere}
use Rattle.sd_state.specs.declared.states.Place.{Place}
use Rattle.sd_state.specs.declared.states.Place.TheVariants.{Running, Queued, RealTime, Waiting, Asleep, Napping, Ended}
use Rattle.sd_state.specs.declared.states.State.{State}
use Rattle.sd_state.specs.States.{thread_of, cpu_of}
use Rattle.sd_machine.specs.Threads.{lock_of, open_of, count_of, runner}
use Rattle.sd_machine.specs.Changes.{cpu_put}
use Rattle.sd_machine.specs.Choosing.{neighbours}
use Rattle.sd_machine.specs.Events.{next}
use Rattle.sd_machine.specs.Needs.{IsThread, IsLock, IsChan, IsCpu, IsSet, IsPut, IsPutIf, IsWoken, RunsThere, Runs, CanAct, IsPrioPut, IsUnmoved, IsBindPut, CanUnbind, CanBeChanged, CanBeBound, Need, Met, Needs, asks}
use Rattle.sd_machine.specs.Deeds.{deeds, first}
use Rattle.sd_machine.proofs.NeedLemmas.{from_met, met_by}
use Rattle.sd_frames.proofs.Leavers.{Named, acts_of, works}
use Rattle.std.specs.List.{list_all}
use Rattle.sd_machine.specs.Runs.{IsReached}
use Rattle.sd_machine.proofs.PlaceLemmas.{is_waiter}
use Rattle.sd_frames.specs.Causes.{Acts, WakesBest, RousesBest, IsRequeuedAt, IsAnswered, IsCause}
use Rattle.sd_frames.specs.Passing.{pass_of}
use Rattle.sd_invariants.specs.Laws.{is_in}
use Rattle.sd_invariants.proofs.AgreedAfter.{lock_inside, not_free_passing}
use Rattle.sd_invariants.proofs.BoundLemmas.{is_bound_at}
use Rattle.sd_invariants.proofs.CountLemmas.{ticks_below}
use Rattle.sd_frames.proofs.Found.{ready_found, queued_found, unbound_found, waiter_found, sleeper_found, due_found, age_found}
use Rattle.sd_frames.proofs.HoldTable.{bound_part}
use Rattle.sd_invariants.proofs.Movers.{owner_thread, prio_thread, bind_thread, requeued_at_away}
use Rattle.sd_invariants.proofs.OpenLemmas.{join_room}
use Rattle.sd_invariants.proofs.Ready.{ready_cause, maker_inside}
use Rattle.sd_invariants.proofs.Whole.{IsWhole, reached_whole, threads_most, is_fit, one_more, binds, woken_there, roused_there, receives, inherits, runs_on, acts_on, takes, naps}
use Rattle.sd_invariants.specs.There.{IsSetThere, IsBoundThere}
use Rattle.sd_invariants.proofs.Named.{acts_named, sleep_chan, sema_chan, enter_lock, read_lock, named_chan, named_lock, assign_cpu, assign_set, bind_cpu, wants_lock}
use Rattle.sd_invariants.proofs.Sets.{SetsAreThere, sets_are_there}
use Rattle.sd_invariants.proofs.Places.{IsPutInside, IsInside, put_inside, requeued_inside, wakes_inside, rouses_inside, answered_inside, bind_inside, inside_reached}
use Rattle.sd_invariants.proofs.Duties.{IsNamed, DutiesNamed, duties_named}

-- what is left of a list was in it
later : (a : Bool) {b d : Bool} → (b ≡ true → d ≡ true) → (a || b) ≡ true → (a || d) ≡ true
later true f e = refl
later false f e = f e

pub in_filter : (p : CpuId → Bool) (c : ℕ) (xs : List CpuId) → is_in c (filter p xs) ≡ true → is_in c xs ≡ true
in_filter p c [] e = e
in_filter p c (x ∷ xs) e = by (p x) (λ f. in_filter p c xs f) e
  where
    by : (a : Bool) → (is_in c (filter p xs) ≡ true → is_in c xs ≡ true) → is_in c (if a then (x ∷ filter p xs) else filter p xs) ≡ true → is_in c (x ∷ xs) ≡ true
    by true more is = later (x.0 == c) more is
    by false more is = or_right (x.0 == c) _ (more is)

-- A thread that waits for a lock goes on waiting where its priority changes.

not_moved : (w : Work) (s : State) (u p : ℕ) (at : Option Put) → IsRequeuedAt w s u p at → is_waiter (thread_of s u).place ≡ true → at ≡ None
not_moved w s u p None requeued waits = refl
not_moved w s u p (Some at) requeued waits = let away = requeued_at_away w s u p at requeued in cc

stays_there : (place : Place) (answer : PrioAnswer) → ((p : ℕ) (at : Option Put) → answer ≡ Changed p at → is_waiter place ≡ true → at ≡ None) → IsUnmoved place answer
stays_there (Waiting l side k) (Changed p at) stays = stays p at refl refl
stays_there (Waiting l side k) (Refused denied) stays = tt
stays_there (Running d) answer stays = tt
stays_there (Queued d k) answer stays = tt
stays_there (RealTime q k) answer stays = tt
stays_there (Asleep k key) answer stays = tt
stays_there (Napping d due) answer stays = tt
stays_there Ended answer stays = tt

is_unmoved : (w : Work) (s : State) (c t u : ℕ) (r : Request) (answer : PrioAnswer) → IsAnswered w s c t u r answer → IsUnmoved (thread_of s u).place answer
is_unmoved w s c t u r (Changed p at) answered = stays_there (thread_of s u).place (Changed p at) (λ q at_q e waits. let same : at ≡ at_q = cc in let none = not_moved w s u p at answered.3 waits in cc)
is_unmoved w s c t u r (Refused denied) answered = stays_there (thread_of s u).place (Refused denied) (λ q at_q e waits. cc)

module _ (w : Work) (s : State) (whole : IsWhole w s) (is : IsInside w s) (sets : SetsAreThere w s) (named : DutiesNamed w s) where
  lock : (l : LockId) → l.0 < length w.locks → IsLock s l
  lock l inside = let many = whole.ready.fits.locks in omega (arith, inside, many)

  chan : (k : ChanId) → k.0 < length w.chans → IsChan s k
  chan k inside = let many = whole.ready.fits.chans in omega (arith, inside, many)

  cpu : (d : CpuId) → d.0 < w.cpus → IsCpu s d
  cpu d inside = let many = whole.ready.fits.cpus in omega (arith, inside, many)

  set : (p : SetId) → p.0 ≤ length w.sets → IsSet s p
  set p inside = let many = whole.ready.fits.sets in omega (arith, inside, many)

  put : (at : Put) → (cpu_put at).0 < w.cpus → IsPut s at
  put at inside = cpu (cpu_put at) inside

  put_if : (at : Option Put) → IsPutInside w at → IsPutIf s at
  put_if None inside = tt
  put_if (Some at) inside = put at inside

  woken_put : (u : Option (ThreadId × Put)) → IfSome u (λ x. (cpu_put x.1).0 < w.cpus) → IfSome u (λ x. (cpu_put x.1).0 < length s.cpus)
  woken_put None inside = tt
  woken_put (Some u) inside = put u.1 inside

  cpu_if : (d : Option CpuId) → IsBoundThere w d → IfSome d (λ e. e.0 < length s.cpus)
  cpu_if None inside = tt
  cpu_if (Some d) inside = cpu d inside

  walk_lock : (c : ℕ) (l : LockId) (seek : ThreadId) (key : ℤ) → (cpu_of s c).duty ≡ duty.Walk l seek key → l.0 < length w.locks
  walk_lock c l seek key e = (subst (λ d. IsNamed w d) e (named c)).0

  -- the lock of a duty to pass one on
  passed_lock : (c : ℕ) (d : Duty) (p : H.Pass) → (cpu_of s c).duty ≡ d → pass_of d ≡ Some p → p.lock < length s.locks
  passed_lock c d p e passes =
      let its = whole.ready.agreed.passed c p (ap pass_of e ∙ passes) in
      lock_inside s p.lock (not_free_passing (lock_of s p.lock) c its.0 its.1)

  runs_there : (t : ThreadId) → RunsThere s t
  runs_there t d e = cpu d (subst (λ p. IsPlaceThere w p) e (is.places t.0))

  counts_one : (u : ℕ) (o : Option CpuId) → (thread_of s u).body.bound ≡ o → u < length s.threads → IsBoundThere w o → IfSome o (λ b. (b.0 < length s.cpus) × (1 ≤ (cpu_of s b.0).bound))
  counts_one u None e inside there = tt
  counts_one u (Some b) e inside there =
      let here : b.0 < length s.cpus = cpu b there in
      let one = count_one (λ t. is_bound_at b.0 (bound_part (thread_of s t))) u (length s.threads) inside (ap (is_bound_at b.0) e ∙ same_itself b.0) in
      let all = whole.bound b.0 here in
      (here, omega (arith, one, all))

  can_unbind : (u : ThreadId) (d : Option CpuId) (answer : BindAnswer) → IsThread s u → CanUnbind s u d answer
  can_unbind u None (bind_answer.Changed at) inside = counts_one u.0 (thread_of s u.0).body.bound refl inside (is.bounds u.0)
  can_unbind u None bind_answer.ESRCH inside = tt
  can_unbind u None bind_answer.EINVAL inside = tt
  can_unbind u None bind_answer.EPERM inside = tt
  can_unbind u None bind_answer.EBUSY inside = tt
  can_unbind u (Some d) answer inside = tt

  stolen_from : (c : ℕ) (v : CpuId) → Contains (neighbours s c) v → v.0 < w.cpus
  unfolding neighbours
  stolen_from c v near =
      (is.opened.member (cpu_of s c).set.0 v.0 (in_filter (λ d. not (d.0 == c)) v.0 (open_of s (cpu_of s c).set.0) (names-from_Contains v (filter (λ d. not (d.0 == c)) (open_of s (cpu_of s c).set.0)) near))).0

  closing_to : (c : ℕ) (to : SetId) → (cpu_of s c).closing ≡ Some to → to.0 ≤ length w.sets
  closing_to c to e = subst (λ o. IfSome o (IsSetThere w)) e (sets c).1

  module _ (c : CpuId) where
    -- the thread acts on an operation
    acts : (t : ThreadId) (o : Op) → Acts w s c.0 t.0 (Some o) → CanAct w s t c
    acts t o cause = acts_on w s whole c t o cause

    runs : (t : ThreadId) → runner s c.0 ≡ Some t.0 → Runs s t c
    runs t is_runner = runs_on w s whole c t is_runner

    prio_put : (answer : PrioAnswer) (t u : ThreadId) → (cause : IsCause w s c.0 (Prio t u answer)) → IsPrioPut s answer
    prio_put (Changed p at) t u cause = put_if at (answered_inside w s is c.0 t.0 u cause.0 (Changed p at) cause.2)
    prio_put (Refused denied) t u cause = tt

    changed : (t u : ThreadId) (answer : PrioAnswer) → IsCause w s c.0 (Prio t u answer) → CanBeChanged w s t u answer
    changed t u answer cause = record {
      request = (cause.0, cause.1.stands);
      thread = prio_thread w s c.0 t.0 u cause.0 whole.ready.fits cause.1;
      put = prio_put answer t u cause;
      unmoved = is_unmoved w s c.0 t.0 u.0 cause.0 answer cause.2;
      running = runs_there u;
    }

    bind_put : (t u : ThreadId) (d : Option CpuId) (answer : BindAnswer) → (cause : IsCause w s c.0 (Bind t u d answer)) → IsBindPut s answer
    bind_put t u d (bind_answer.Changed at) cause = put_if at (bind_inside w s is t.0 u.0 d (bind_answer.Changed at) (bind_cpu w u d (acts_named w s c.0 t.0 (op.Pbind u d) cause.0)) cause.1)
    bind_put t u d bind_answer.ESRCH cause = tt
    bind_put t u d bind_answer.EINVAL cause = tt
    bind_put t u d bind_answer.EPERM cause = tt
    bind_put t u d bind_answer.EBUSY cause = tt

    bound : (t u : ThreadId) (d : Option CpuId) (answer : BindAnswer) → IsCause w s c.0 (Bind t u d answer) → CanBeBound s u d answer
    bound t u d answer cause =
        let inside = bind_thread w s c.0 t.0 u d whole.ready.fits cause.0 in
        record {
          thread = inside;
          cpu = cpu_if d (bind_cpu w u d (acts_named w s c.0 t.0 (op.Pbind u d) cause.0));
          put = bind_put t u d answer cause;
          bound = binds w s whole d answer;
          unbound = can_unbind u d answer inside;
          before = cpu_if (thread_of s u.0).body.bound (is.bounds u.0);
          running = runs_there u;
        }

    woken : (k : ChanId) (u : Option (ThreadId × Put)) → WakesBest w s k.0 u → IsWoken s u
    woken k u wakes = record { thread = woken_there w s whole k.0 u wakes; put = woken_put u (wakes_inside w s is k.0 u wakes) }

    roused : (k : ChanId) (below : ℤ) (u : Option (ThreadId × Put)) → RousesBest w s k.0 below u → IsWoken s u
    roused k below u rouses = record { thread = roused_there w s whole k.0 below u rouses; put = woken_put u (rouses_inside w s is k.0 below u rouses) }

    -- what the thread at work needs, and what its operation names
    abbrev by_work : Need → Bool
    by_work (Need.Acts u) = true
    by_work (Need.Chan k) = true
    by_work (Need.Lock l) = true
    by_work _ = false

    work_met : (t : ℕ) (o : Op) → Acts w s c.0 t (Some o) → (a : Need) → by_work a ≡ true → Named t o a → Met w s c a
    work_met t o at (Need.Acts u) is why = acts u o (subst (λ v. Acts w s c.0 v (Some o)) (sym why) at)
    work_met t o at (Need.Chan k) is why = chan k (named_chan w o k (acts_named w s c.0 t o at) why)
    work_met t o at (Need.Lock l) is why = lock l (named_lock w o l (acts_named w s c.0 t o at) why)
    work_met t o at _ is why = cc

    work_needs : (e : Event) (t : ℕ) → first works (deeds e) ≡ Some t → list_all by_work (asks e) ≡ true → IsCause w s c.0 e → Needs w s c e
    work_needs e t is all cause =
        let at = acts_of w s c.0 e cause t is in
        from_met w s c e (met_by w s c (Named t at.by) by_work (λ a kind why. work_met t at.by at.acts a kind why) (asks e) all at.names)

    needs : (counts : (k : ℕ) → count_of s k + 1 < 2 ^ 32) (e : Event) → c.0 < w.cpus → IsCause w s c.0 e → Needs w s c e
    needs counts (Tick t) here cause = (acts t (op.Run cause.0.0) cause.0.1, ticks_below w s c.0 cause.1)
    needs counts (Spin t l) here cause = (runs t cause.0.1.acts.runs, lock l (wants_lock w s c.0 t.0 l cause.0.0 cause.0.1), ticks_below w s c.0 cause.1)
    needs counts Idle here cause = ticks_below w s c.0 cause.2
    needs counts (Dispatch t p) here cause = ((ready_found s c.0 t.0 cause.1).inside, cause.0.idle.nobody)
    needs counts (Steal v t p) here cause = ((unbound_found s v.0 t.0 cause.3).inside, cause.0.idle.nobody, cpu v (stolen_from c.0 v cause.2))
    needs counts (Preempt t end) here cause = runs t cause.0.runs
    needs counts (Away t d) here cause = (runs t cause.0.runs, cpu d (subst (λ o. IsBoundThere w o) cause.1 (is.bounds t.0)))
    needs counts (Done t) here cause = runs t cause.runs
    needs counts (Nap t) here cause = (acts t (op.Nap cause.0) cause.1, naps w s whole c t cause.0 cause.1)
    needs counts (Napend t at) here cause = ((due_found s c.0 t.0 cause.0).inside, put at (put_inside w s is t.0 _ at cause.1))
    needs counts (Wake t k u) here cause = (acts t (op.Wake k) cause.0, chan k (sleep_chan w k (acts_named w s c.0 t.0 (op.Wake k) cause.0)), woken k u cause.1)
    needs counts (Rouse k u) here cause = (chan k (subst (λ d. IsNamed w d) cause.1 (named c.0)), roused k cause.0 u cause.2)
    needs counts (Enter t l) here cause = (acts t (op.Enter l) cause.0, lock l (enter_lock w l (acts_named w s c.0 t.0 (op.Enter l) cause.0)), takes w s whole c t (op.Enter l) l Writer cause.0 refl)
    needs counts (Read t l) here cause =
        (acts t (op.Read l) cause.0, lock l (read_lock w l (acts_named w s c.0 t.0 (op.Read l) cause.0)), takes w s whole c t (op.Read l) l Reader cause.0 refl, one_more w s whole l)
    needs counts (Write t l) here cause = (acts t (op.Write l) cause.0, lock l (read_lock w l (acts_named w s c.0 t.0 (op.Write l) cause.0)), takes w s whole c t (op.Write l) l Writer cause.0 refl)
    needs counts (Block t l) here cause = (runs t cause.1.acts.runs, lock l (wants_lock w s c.0 t.0 l cause.0 cause.1))
    needs counts (Will l o p at) here cause =
        (owner_thread s l o whole.ready.agreed cause.1, lock l (walk_lock c.0 l cause.0.0 cause.0.1 cause.0.2), inherits w s whole l o cause.1, put_if at (requeued_inside w s is o.0 p at cause.3), runs_there o)
    needs counts (WalkEnd l) here cause = lock l (walk_lock c.0 l cause.0.0 cause.0.1 cause.0.2)
    needs counts (Unblock l u at) here cause =
        ((waiter_found s l.0 Writer u.0 cause.1).inside, passed_lock c.0 (duty.WakeMutex l) (record { lock = l.0; alone = true }) cause.0 refl, put at (put_inside w s is u.0 _ at cause.2))
    needs counts (Grant l u at) here (inl cause) =
        (passed_lock c.0 (duty.GrantWriter l) (record { lock = l.0; alone = true }) cause.0 refl, put at (put_inside w s is u.0 _ at cause.2), receives w s whole l Writer u cause.1)
    needs counts (Grant l u at) here (inr cause) =
        (passed_lock c.0 (duty.GrantReaders l) (record { lock = l.0; alone = false }) cause.0 refl, put at (put_inside w s is u.0 _ at cause.2), receives w s whole l Reader u cause.1)
    needs counts (Passed l) here cause = passed_lock c.0 (duty.GrantReaders l) (record { lock = l.0; alone = false }) cause.0 refl
    needs counts (Age t p) here cause = let inside = (age_found s c.0 (cause.0).0 t.0 cause.2).inside in let many = threads_most w s whole in (inside, omega (arith, inside, many))
    needs counts (Prio t u answer) here cause = (acts t (op.Prio u cause.0) cause.1, changed t u answer cause)
    needs counts (SemaVWake t k u at) here cause =
        (acts t (op.SemaV k) cause.0, chan k (sema_chan w k (acts_named w s c.0 t.0 (op.SemaV k) cause.0)), (sleeper_found s k.0 u.0 cause.1.best).inside, put at (put_inside w s is u.0 _ at cause.1.put))
    needs counts (SemaVCount t k m) here cause = (acts t (op.SemaV k) cause.0, chan k (sema_chan w k (acts_named w s c.0 t.0 (op.SemaV k) cause.0)), counts k.0)
    needs counts (Assign t d to answer) here cause = (
      acts t (op.Assign d to) cause.0,
      cpu d (assign_cpu w d to (acts_named w s c.0 t.0 (op.Assign d to) cause.0)),
      set to (assign_set w d to (acts_named w s c.0 t.0 (op.Assign d to) cause.0)),
      set (cpu_of s d.0).set (sets d.0).0,
    )
    needs counts (Move t at) here cause = ((queued_found s c.0 t.0 cause.1).inside, put at (put_inside w s is t.0 _ at cause.2))
    needs counts (Joined to) here cause = (set to (closing_to c.0 to cause.1), join_room w s c.0 to here cause.1 whole.opened)
    needs counts (Bind t u d answer) here cause = (acts t (op.Pbind u d) cause.0, bound t u d answer cause)
    needs counts e here cause = work_needs e _ refl refl cause

pub needs_reached : (w : Work) (n : ℕ) (s : State) (c : CpuId) (h : Option Hints) (e : Event) → IsReached w n s → next w s c h ≡ Some e → Needs w s c e
needs_reached w n s c h e reached makes =
    let whole = reached_whole w n s reached in
    needs w s whole (inside_reached w n s reached) (sets_are_there w n s reached) (duties_named w n s reached) c (is_fit w s whole).counts e (maker_inside w s c h e makes) (ready_cause w s c h e whole.ready makes)

-- the processors that are searched for a thread to steal
pub neighbours_there : (w : Work) (n : ℕ) (s : State) (c : ℕ) (d : CpuId) → IsReached w n s → Contains (neighbours s c) d → d.0 < w.cpus
neighbours_there w n s c d reached near =
    stolen_from w s (reached_whole w n s reached) (inside_reached w n s reached) (sets_are_there w n s reached) (duties_named w n s reached) c d near
