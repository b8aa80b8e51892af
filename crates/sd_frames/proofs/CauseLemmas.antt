-- The event that the order of a processor's events gives has its cause in the state.
use Rattle.std.proofs.Common.{◌≡◌, ◌≢◌, ℕ, ◌<◌, Bool, true, false, not, ◌&&◌, ◌||◌, List, length, Option, Some, None, is_none, inl, inr, refl, sym, ap, ◌∙◌, subst, arith, ◌==◌}
use Rattle.std.specs.Prelude.{⊤, ℤ, Result, Ok, Err, MatchBool, MatchOption, All, if◌then◌else◌, nat_lt, nat_le}
use Rattle.std.specs.List.{Contains}
use Rattle.std.proofs.lemmas.Bool.{false≢true, eqb-true}
use Rattle.std.proofs.lemmas.Bool.Decides.{nat_tests}
use Rattle.std.proofs.lemmas.List.Elements.{Contains-get_or}
use Rattle.std.proofs.lemmas.Option.{same_Some, slice_get_within, get_or_from_slice_get}
use Rattle.sd_basics.proofs.Truths.{and_right}
use Rattle.sd_types.specs.declared.numbers.CpuId.{CpuId}
use Rattle.sd_types.specs.declared.numbers.ChanId.{ChanId}
use Rattle.sd_types.specs.declared.numbers.LockId.{LockId}
use Rattle.sd_types.specs.declared.numbers.SetId.{SetId}
use Rattle.sd_types.specs.declared.numbers.Side.TheVariants.{Writer, Reader}
use Rattle.sd_types.specs.declared.numbers.ThreadId.{ThreadId}
use Rattle.sd_types.specs.declared.classes.ClassParms.{ClassParms}
use Rattle.sd_types.specs.declared.events.Denied.{Denied}
use Rattle.sd_types.specs.declared.events.Duty.{Duty}
use Rattle.sd_types.specs.declared.events.Duty.TheVariants as duty
use Rattle.sd_types.specs.declared.events.Event.{Event}
use Rattle.sd_types.specs.declared.events.Event.TheVariants as event
use Rattle.sd_types.specs.declared.events.PrioAnswer.TheVariants.{Changed}
use Rattle.sd_types.specs.declared.events.Hints.{Hints}
use Rattle.sd_types.specs.declared.events.Put.TheVariants.{Cpu, RealTime as OnRealTime}
use Rattle.sd_types.specs.declared.scripts.Op.{Op}
use Rattle.sd_types.specs.declared.scripts.Op.TheVariants as op
use Rattle.sd_types.specs.declared.scripts.Request.{Request}
use Rattle.sd_types.specs.declared.works.Work.{Work}
use Rattle.sd_rules.specs.Choices.{is_among, IsBestByHints, IsVictim}
use Rattle.sd_rules.specs.ChoiceFunctions.{chosen, victim_of}
use Rattle.sd_rules.proofs.FunctionLemmas.{chosen_is, victim_is}
use Rattle.sd_types.specs.Events.{ticks}
use Rattle.sd_rules.specs.ClassRules.{end_of}
use Rattle.sd_machine.specs.declared.plans.Plan.{Plan}
use Rattle.sd_machine.specs.declared.plans.Plan.TheVariants.{Make, Place as PlaceIt}
use Rattle.sd_machine.specs.declared.plans.Placement.TheVariants as placement
use Rattle.sd_machine.specs.declared.plans.Requeue.{Requeue}
use Rattle.sd_machine.specs.declared.plans.Requeue.TheVariants.{Stays, Behind, Anew}
use Rattle.sd_state.specs.declared.states.LockState.{LockState}
use Rattle.sd_state.specs.declared.states.LockState.TheVariants.{Free, Owned, ReadHeld, Passing}
use Rattle.sd_state.specs.declared.states.State.{State}
use Rattle.sd_state.specs.States.{thread_of, cpu_of, eff_of}
use Rattle.sd_state.specs.Operations.{op_of}
use Rattle.sd_machine.specs.Threads.{thread_id, lock_of, count_of, runner, best_ready, best_queued, best_unbound, best_waiter, best_sleeper, best_sleeper_below, first_due, next_to_age, priority_of}
use Rattle.sd_types.specs.Priorities.{eff_as}
use Rattle.sd_machine.specs.Changes.{cpu_put}
use Rattle.sd_machine.specs.Choosing.{numbers_read, cpus_for, is_warm, choice, put_on, put_chosen, neighbours, victim_for}
use Rattle.sd_machine.specs.Dispatching.{must_leave, leave_event, dispatch_plan, steal_event, search_event}
use Rattle.sd_machine.specs.Sleeping.{woken_priority, napend_plan, wake_plan, rouse_plan}
use Rattle.sd_machine.specs.Locking.{owner_runs, enter_event, read_event, write_event, unblock_plan, writer_priority, grant_writer_plan, is_eligible, grant_reader_plan}
use Rattle.sd_machine.specs.Requeueing.{requeue, requeue_plan}
use Rattle.sd_machine.specs.Walking.{inherited_priority, will_plan, walk_plan}
use Rattle.sd_machine.specs.Prioritising.{answer_to, new_class, change_plan, prio_plan, age_plan}
use Rattle.sd_machine.specs.Conditions.{sema_p_if, sema_p_event, sema_v_plan}
use Rattle.sd_machine.specs.SetChanges.{closing_plan}
use Rattle.sd_machine.specs.Plans.{first_of, duty_plan_of, duty_plan, nap_plan, ageing_plan_of, ageing_plan, op_plan, run_plan_of, run_plan, free_plan_of, cpu_plan_of, cpu_plan, or_plan, plan}
use Rattle.sd_machine.specs.Events.{plan_event, wish, may_tick, allowed, next}
use Rattle.sd_machine.specs.Hints.{hints_fit, plan_reads, read_of, reads, reads_for}
use Rattle.sd_machine.proofs.NumberLemmas.{placed_numbers, search_numbers}
use Rattle.sd_frames.specs.Causes.{GivesWay, Runs, IsIdle, IsOpenIdle, Acts, Leaves, IsPut, IsCause}
use Rattle.sd_rules.proofs.ChoiceLemmas.{Contains-from_among}

-- Choices.

chosen_among : (cpus : List CpuId) (numbers : List ℕ) (last : CpuId) (warm : Bool) → 0 < length cpus → length numbers ≡ length cpus
    → Contains cpus (chosen cpus numbers last warm)
chosen_among cpus numbers last warm some same = by (warm && is_among last cpus) refl (chosen_is cpus numbers last warm some (sym same))
  where
    by : (b : Bool) → (warm && is_among last cpus) ≡ b
        → MatchBool b (chosen cpus numbers last warm ≡ last) (IsBestByHints cpus numbers last (chosen cpus numbers last warm))
        → Contains cpus (chosen cpus numbers last warm)
    by true e is = subst (λ x. Contains cpus x) (sym is) (Contains-from_among last cpus (and_right warm (is_among last cpus) e))
    by false e best =
        let (i, at, other) = best.busy.has in
        let inside = slice_get_within cpus i (chosen cpus numbers last warm) at in
        subst (λ x. Contains cpus x) (get_or_from_slice_get cpus i (chosen cpus numbers last warm) last at) (Contains-get_or cpus i last inside)

cpu_on : (p : ℕ) (b : Option CpuId) (x : CpuId) → cpu_put (put_on p b x) ≡ x
cpu_on p b x = elim (nat_le 100 p && is_none b) as (λ v. cpu_put (if v then OnRealTime x else Cpu x) ≡ x) [ true ↦ refl | false ↦ refl ]

choice_among : (w : Work) (s : State) (c t : ℕ) (h : Option Hints) → hints_fit (reads_for w s c t) h ≡ true → 0 < length (cpus_for w s t) → Contains (cpus_for w s t) (choice w s c t h)
unfolding reads_for choice
choice_among w s c t h fit some =
    chosen_among (cpus_for w s t) (numbers_read (cpus_for w s t) h) (thread_of s t).body.last (is_warm s c t) some
    (placed_numbers w s c t h fit)

put_is : (w : Work) (s : State) (c t p : ℕ) (h : Option Hints) → hints_fit (reads_for w s c t) h ≡ true → IsPut w s t p (put_chosen w s c t p h)
unfolding put_chosen
put_is w s c t p h fit =
    let at = cpu_on p (thread_of s t).body.bound (choice w s c t h) in
    record {
      suits = ap (λ x. put_on p (thread_of s t).body.bound x) (sym at);
      chosen = λ some. subst (λ x. Contains (cpus_for w s t) x) (sym at) (choice_among w s c t h fit some);
    }

-- Plans.

abbrev pub Caused : Work → State → ℕ → Option Hints → Plan → Type 0
Caused w s c h p =
    (ticks (plan_event w s c h p) ≡ true → may_tick w s c ≡ true) → hints_fit (plan_reads w s c p) h ≡ true → IsCause w s c (plan_event w s c h p)

abbrev CausedIf : Work → State → ℕ → Option Hints → Option Plan → Type 0
CausedIf w s c h None = ⊤
CausedIf w s c h (Some p) = Caused w s c h p

-- somebody waits whom the duty is to wake or to give the lock
abbrev pub Serves : State → Duty → Type 0
Serves s (duty.WakeMutex l) = best_waiter s l.0 Writer ≢ None
Serves s (duty.GrantWriter l) = best_waiter s l.0 Writer ≢ None
Serves s _ = ⊤

module _ (w : Work) (s : State) (c : ℕ) (h : Option Hints) where
  -- 1. Duties.

  will_caused : (l : LockId) (o : ThreadId) (seek : ThreadId) (key : ℤ) → (cpu_of s c).duty ≡ duty.Walk l seek key → lock_of s l.0 ≡ Owned o
      → Caused w s c h (will_plan s l o (inherited_priority s l o.0))
  will_caused l o seek key walks owned = by (requeue (thread_of s o.0).place (eff_of s o.0) (inherited_priority s l o.0) (thread_of s o.0).body.bound) refl
    where
      by : (r : Requeue) → requeue (thread_of s o.0).place (eff_of s o.0) (inherited_priority s l o.0) (thread_of s o.0).body.bound ≡ r
          → Caused w s c h (requeue_plan r (λ at. event.Will l o (inherited_priority s l o.0) at) (placement.Will l o (inherited_priority s l o.0)) (inherited_priority s l o.0))
      by Stays e m fit = ((seek, key, walks), owned, refl, e)
      by (Behind d) e m fit = ((seek, key, walks), owned, refl, inl (d, e, refl))
      by Anew e m fit = ((seek, key, walks), owned, refl, inr (e, put_is w s c o.0 (inherited_priority s l o.0) h fit))

  walk_caused : (l : LockId) (seek : ThreadId) (key : ℤ) → (cpu_of s c).duty ≡ duty.Walk l seek key → (x : LockState) → lock_of s l.0 ≡ x → Caused w s c h (walk_plan s l x)
  walk_caused l seek key walks (Owned o) e = will_caused l o seek key walks e
  walk_caused l seek key walks Free e = λ m fit. ((seek, key, walks), λ o owned. cc)
  walk_caused l seek key walks (ReadHeld n) e = λ m fit. ((seek, key, walks), λ o owned. cc)
  walk_caused l seek key walks (Passing d r) e = λ m fit. ((seek, key, walks), λ o owned. cc)

  unblock_caused : (l : LockId) → (cpu_of s c).duty ≡ duty.WakeMutex l → (o : Option ℕ) → best_waiter s l.0 Writer ≡ o → CausedIf w s c h (unblock_plan w s l o)
  unblock_caused l serves None e = tt
  unblock_caused l serves (Some u) e = λ m fit. (serves, e, put_is w s c u (woken_priority w s u) h fit)

  grant_writer_caused : (l : LockId) → (cpu_of s c).duty ≡ duty.GrantWriter l → (o : Option ℕ) → best_waiter s l.0 Writer ≡ o → CausedIf w s c h (grant_writer_plan w s l o)
  grant_writer_caused l serves None e = tt
  grant_writer_caused l serves (Some u) e = λ m fit. inl (serves, e, put_is w s c u (writer_priority w s l u) h fit)

  not_eligible : (r : ℕ) (o : Option ℕ) → is_eligible (Some r) (priority_of s o) ≡ false → (v : ℕ) × (o ≡ Some v) × (r < eff_of s v)
  not_eligible r None e = absurd (false≢true (sym e))
  not_eligible r (Some v) e = (v, refl, grind (arith, nat_tests))

  grant_reader_caused : (l : LockId) → (cpu_of s c).duty ≡ duty.GrantReaders l → (o : Option ℕ) → best_waiter s l.0 Reader ≡ o → Caused w s c h (grant_reader_plan w s l o)
  grant_reader_caused l serves None e = λ m fit. (serves, inl e)
  grant_reader_caused l serves (Some u) e = by (is_eligible (priority_of s (Some u)) (priority_of s (best_waiter s l.0 Writer))) refl
    where
      by : (b : Bool) → is_eligible (priority_of s (Some u)) (priority_of s (best_waiter s l.0 Writer)) ≡ b
          → Caused w s c h (if b then PlaceIt (placement.Grant l (thread_id u)) (woken_priority w s u) else Make (event.Passed l))
      by true ok = λ m fit. inr (serves, e, put_is w s c u (woken_priority w s u) h fit)
      by false ok = λ m fit. let (v, is, less) = not_eligible (eff_of s u) (best_waiter s l.0 Writer) ok in (serves, inr (u, v, e, is, less))

  rouse_caused : (k : ChanId) (below : ℤ) → (cpu_of s c).duty ≡ duty.Rouse k below → (o : Option ℕ) → best_sleeper_below s k.0 below ≡ o → Caused w s c h (rouse_plan w s k o)
  rouse_caused k below rouses None e = λ m fit. (below, rouses, e)
  rouse_caused k below rouses (Some u) e = λ m fit. (below, rouses, (e, put_is w s c u (woken_priority w s u) h fit))

  duty_caused : (d : Duty) → (cpu_of s c).duty ≡ d → CausedIf w s c h (duty_plan_of w s d)
  duty_caused duty.Nothing e = tt
  duty_caused (duty.Walk l seek key) e = walk_caused l seek key e (lock_of s l.0) refl
  duty_caused (duty.WakeMutex l) e = unblock_caused l e (best_waiter s l.0 Writer) refl
  duty_caused (duty.GrantWriter l) e = grant_writer_caused l e (best_waiter s l.0 Writer) refl
  duty_caused (duty.GrantReaders l) e = grant_reader_caused l e (best_waiter s l.0 Reader) refl
  duty_caused (duty.Rouse k below) e = rouse_caused k below e (best_sleeper_below s k.0 below) refl
  duty_caused (duty.Age u) e = tt

  -- where it gives nothing, the duty is none but ageing
  unblock_gives : (l : LockId) (o : Option ℕ) → o ≢ None → unblock_plan w s l o ≡ None → ⊥
  unblock_gives l None some e = some refl
  unblock_gives l (Some u) some e = cc

  grant_gives : (l : LockId) (o : Option ℕ) → o ≢ None → grant_writer_plan w s l o ≡ None → ⊥
  grant_gives l None some e = some refl
  grant_gives l (Some u) some e = cc

  no_duty : (d : Duty) → Serves s d → duty_plan_of w s d ≡ None → GivesWay d
  no_duty duty.Nothing serves e = tt
  no_duty (duty.Walk l seek key) serves e = cc
  no_duty (duty.WakeMutex l) serves e = unblock_gives l (best_waiter s l.0 Writer) serves e
  no_duty (duty.GrantWriter l) serves e = grant_gives l (best_waiter s l.0 Writer) serves e
  no_duty (duty.GrantReaders l) serves e = cc
  no_duty (duty.Rouse k below) serves e = cc
  no_duty (duty.Age u) serves e = tt

  -- 2. and 3. Naps and ageing.

  nap_caused : GivesWay (cpu_of s c).duty → (o : Option ℕ) → first_due s c ≡ o → CausedIf w s c h (napend_plan w s o)
  nap_caused free None e = tt
  nap_caused free (Some t) e = λ m fit. (e, put_is w s c t (woken_priority w s t) h fit, free)

  age_caused : (u : ThreadId) → (cpu_of s c).duty ≡ duty.Age u → (o : Option ℕ) → next_to_age s c u.0 ≡ o → CausedIf w s c h (age_plan w s o)
  age_caused u ages None e = tt
  age_caused u ages (Some t) e = λ m fit. (u, ages, e)

  ageing_caused : (d : Duty) → (cpu_of s c).duty ≡ d → CausedIf w s c h (ageing_plan_of w s c d)
  ageing_caused (duty.Age u) e = age_caused u e (next_to_age s c u.0) refl
  ageing_caused _ e = tt

  -- 4. A running thread that has to leave.

  leave_caused : (t : ℕ) → Leaves s c t → (b : Option CpuId) → (thread_of s t).body.bound ≡ b → Caused w s c h (Make (leave_event c t (thread_of s t).body b))
  leave_caused t leaves None e = λ m fit. (leaves, inl e)
  leave_caused t leaves (Some d) e = by (d.0 == c) refl
    where
      by : (b : Bool) → (d.0 == c) ≡ b → Caused w s c h (Make (if b then event.Preempt (thread_id t) (end_of (thread_of s t).body.back) else event.Away (thread_id t) d))
      by true same = λ m fit. (leaves, inr (d, e, eqb-true d.0 c same))
      by false other = λ m fit. (leaves, e, λ same. grind (arith, nat_tests))

  -- 5. No thread runs.

  steal_caused : IsOpenIdle s c → best_ready s c ≡ None → (v : CpuId) → Contains (neighbours s c) v → (o : Option ℕ) → best_unbound s v.0 ≡ o
      → (ticks (steal_event s v o) ≡ true → may_tick w s c ≡ true) → IsCause w s c (steal_event s v o)
  steal_caused idle none v near None e m = (idle, none, m refl)
  steal_caused idle none v near (Some t) e m = (idle, none, near, e)

  victim_near : hints_fit (read_of (neighbours s c)) h ≡ true → (v : CpuId) → victim_for s c h ≡ Some v → Contains (neighbours s c) v
  unfolding victim_for
  victim_near fit v e =
      in_list (neighbours s c) (numbers_read (neighbours s c) h)
      (victim_is (neighbours s c) (numbers_read (neighbours s c) h) (sym (search_numbers (neighbours s c) h fit))) e
    where
      in_list : (cpus : List CpuId) (numbers : List ℕ) → MatchOption (victim_of cpus numbers) (All (λ hint. hint ≡ 0) numbers) (IsVictim cpus numbers) → victim_of cpus numbers ≡ Some v → Contains cpus v
      in_list cpus numbers is at =
          let found : IsVictim cpus numbers v = rw at at is in
          let (i, there, other) = found.has in
          subst (λ x. Contains cpus x) (get_or_from_slice_get cpus i v v there) (Contains-get_or cpus i v (slice_get_within cpus i v there))

  search_caused : IsOpenIdle s c → best_ready s c ≡ None → hints_fit (read_of (neighbours s c)) h ≡ true → (o : Option CpuId) → victim_for s c h ≡ o
      → (ticks (search_event s o) ≡ true → may_tick w s c ≡ true) → IsCause w s c (search_event s o)
  search_caused idle none fit None e m = (idle, none, m refl)
  search_caused idle none fit (Some v) e m = steal_caused idle none v (victim_near fit v e) (best_unbound s v.0) refl m

  dispatch_caused : IsOpenIdle s c → (o : Option ℕ) → best_ready s c ≡ o → Caused w s c h (dispatch_plan s o)
  dispatch_caused idle None e = λ m fit. search_caused idle e fit (victim_for s c h) refl m
  dispatch_caused idle (Some t) e = λ m fit. (idle, e)

  closing_caused : IsIdle s c → (to : SetId) → (cpu_of s c).closing ≡ Some to → (o : Option ℕ) → best_queued s c ≡ o → Caused w s c h (closing_plan s to o)
  closing_caused idle to closes None e = λ m fit. (idle, closes, e)
  closing_caused idle to closes (Some t) e = λ m fit. (idle, e, put_is w s c t (eff_of s t) h fit)

  free_caused : IsIdle s c → (o : Option SetId) → (cpu_of s c).closing ≡ o → Caused w s c h (free_plan_of s c o)
  free_caused idle None e = dispatch_caused (record { idle = idle; opened = e }) (best_ready s c) refl
  free_caused idle (Some to) e = closing_caused idle to e (best_queued s c) refl

  -- 6. Operations.

  not_reader : Writer ≡ Reader → ⊥
  not_reader e = cc

  wake_caused : (t : ℕ) (k : ChanId) → Acts w s c t (Some (op.Wake k)) → (o : Option ℕ) → best_sleeper s k.0 ≡ o → Caused w s c h (wake_plan w s t k o)
  wake_caused t k acts None e = λ m fit. (acts, e)
  wake_caused t k acts (Some u) e = λ m fit. (acts, record { best = e; put = put_is w s c u (woken_priority w s u) h fit })

  sema_v_caused : (t : ℕ) (k : ChanId) → Acts w s c t (Some (op.SemaV k)) → (o : Option ℕ) → best_sleeper s k.0 ≡ o → Caused w s c h (sema_v_plan w s t k o)
  sema_v_caused t k acts None e = λ m fit. (acts, e, refl)
  sema_v_caused t k acts (Some u) e = λ m fit. (acts, record { best = e; put = put_is w s c u (woken_priority w s u) h fit })

  sema_p_caused : (t : ℕ) (k : ChanId) → Acts w s c t (Some (op.SemaP k)) → Caused w s c h (Make (sema_p_event s t k))
  sema_p_caused t k acts = by (nat_le 1 (count_of s k.0)) refl
    where
      by : (b : Bool) → nat_le 1 (count_of s k.0) ≡ b → Caused w s c h (Make (sema_p_if b t k))
      by true e = λ m fit. (acts, grind (arith, nat_tests))
      by false e = λ m fit. (acts, grind (arith, nat_tests))

  enter_caused : (t : ℕ) (l : LockId) → Acts w s c t (Some (op.Enter l)) → (x : LockState) → lock_of s l.0 ≡ x → (may_tick_if : ticks (enter_event s t l x) ≡ true → may_tick w s c ≡ true) → IsCause w s c (enter_event s t l x)
  enter_caused t l acts Free e m = (acts, e)
  enter_caused t l acts (Owned o) e m = by (owner_runs s o) m
    where
      by : (b : Bool) → (ticks (if b then event.Spin (thread_id t) l else event.Block (thread_id t) l) ≡ true → may_tick w s c ≡ true)
          → IsCause w s c (if b then event.Spin (thread_id t) l else event.Block (thread_id t) l)
      by true may = ((Writer, record { by = op.Enter l; acts = acts; wanted = refl }), may refl)
      by false may = (Writer, record { by = op.Enter l; acts = acts; wanted = refl }, inl (o, e))
  enter_caused t l acts (ReadHeld n) e m = (Writer, record { by = op.Enter l; acts = acts; wanted = refl }, inr (n, e, λ reads. absurd (not_reader reads)))
  enter_caused t l acts (Passing d r) e m = ((Writer, record { by = op.Enter l; acts = acts; wanted = refl }), m refl)

  some_none : (u : ℕ) → Some u ≡ None → ⊥
  some_none u e = cc

  read_caused : (t : ℕ) (l : LockId) → Acts w s c t (Some (op.Read l)) → (x : LockState) → lock_of s l.0 ≡ x → (ticks (read_event s t l x) ≡ true → may_tick w s c ≡ true) → IsCause w s c (read_event s t l x)
  read_caused t l acts Free e m = (acts, inl e)
  read_caused t l acts (Owned o) e m = (Reader, record { by = op.Read l; acts = acts; wanted = refl }, inl (o, e))
  read_caused t l acts (ReadHeld n) e m = by (best_waiter s l.0 Writer) refl
    where
      by : (o : Option ℕ) → best_waiter s l.0 Writer ≡ o → IsCause w s c (if is_none o then event.Read (thread_id t) l else event.Block (thread_id t) l)
      by None none = (acts, inr (n, e, none))
      by (Some u) some = (Reader, record { by = op.Read l; acts = acts; wanted = refl }, inr (n, e, λ reads none. absurd (some_none u (sym some ∙ none))))
  read_caused t l acts (Passing d r) e m = ((Reader, record { by = op.Read l; acts = acts; wanted = refl }), m refl)

  write_caused : (t : ℕ) (l : LockId) → Acts w s c t (Some (op.Write l)) → (x : LockState) → lock_of s l.0 ≡ x → (ticks (write_event t l x) ≡ true → may_tick w s c ≡ true) → IsCause w s c (write_event t l x)
  write_caused t l acts Free e m = (acts, e)
  write_caused t l acts (Owned o) e m = (Writer, record { by = op.Write l; acts = acts; wanted = refl }, inl (o, e))
  write_caused t l acts (ReadHeld n) e m = (Writer, record { by = op.Write l; acts = acts; wanted = refl }, inr (n, e, λ reads. absurd (not_reader reads)))
  write_caused t l acts (Passing d r) e m = ((Writer, record { by = op.Write l; acts = acts; wanted = refl }), m refl)

  change_caused : (t : ℕ) (u : ThreadId) (r : Request) (parms : ClassParms) → Acts w s c t (Some (op.Prio u r)) → answer_to w s t u.0 r ≡ Ok parms
      → Caused w s c h (change_plan s t u (eff_as (new_class w s u.0 parms) (thread_of s u.0).body))
  change_caused t u r parms acts ok = by (requeue (thread_of s u.0).place (eff_of s u.0) (eff_as (new_class w s u.0 parms) (thread_of s u.0).body) (thread_of s u.0).body.bound) refl
    where
      by : (q : Requeue) → requeue (thread_of s u.0).place (eff_of s u.0) (eff_as (new_class w s u.0 parms) (thread_of s u.0).body) (thread_of s u.0).body.bound ≡ q
          → Caused w s c h (requeue_plan q (λ at. event.Prio (thread_id t) u (Changed (eff_as (new_class w s u.0 parms) (thread_of s u.0).body) at)) (placement.Prio (thread_id t) u (eff_as (new_class w s u.0 parms) (thread_of s u.0).body)) (eff_as (new_class w s u.0 parms) (thread_of s u.0).body))
      by Stays e = λ m fit. (r, acts, (parms, ok, refl, e))
      by (Behind d) e = λ m fit. (r, acts, (parms, ok, refl, inl (d, e, refl)))
      by Anew e = λ m fit. (r, acts, (parms, ok, refl, inr (e, put_is w s c u.0 (eff_as (new_class w s u.0 parms) (thread_of s u.0).body) h fit)))

  prio_caused : (t : ℕ) (u : ThreadId) (r : Request) → Acts w s c t (Some (op.Prio u r)) → (a : Result ClassParms Denied) → answer_to w s t u.0 r ≡ a → Caused w s c h (prio_plan w s t u a)
  prio_caused t u r acts (Err denied) e = λ m fit. (r, acts, tt)
  prio_caused t u r acts (Ok parms) e = change_caused t u r parms acts e

  op_caused : (t : ℕ) (o : Option Op) → Acts w s c t o → Caused w s c h (op_plan w s t o)
  unfolding op_plan
  op_caused t None acts = λ m fit. acts
  op_caused t (Some (op.Run n)) acts = λ m fit. ((n, acts), m refl)
  op_caused t (Some op.Yield) acts = λ m fit. acts
  op_caused t (Some (op.Nap n)) acts = λ m fit. (n, acts)
  op_caused t (Some (op.Sleep k)) acts = λ m fit. acts
  op_caused t (Some (op.Wake k)) acts = wake_caused t k acts (best_sleeper s k.0) refl
  op_caused t (Some (op.WakeAll k)) acts = λ m fit. acts
  op_caused t (Some (op.Enter l)) acts = λ m fit. enter_caused t l acts (lock_of s l.0) refl m
  op_caused t (Some (op.Read l)) acts = λ m fit. read_caused t l acts (lock_of s l.0) refl m
  op_caused t (Some (op.Write l)) acts = λ m fit. write_caused t l acts (lock_of s l.0) refl m
  op_caused t (Some (op.Exit l)) acts = λ m fit. acts
  op_caused t (Some (op.Prio u r)) acts = prio_caused t u r acts (answer_to w s t u.0 r) refl
  op_caused t (Some (op.CvWait k l)) acts = λ m fit. acts
  op_caused t (Some (op.SemaP k)) acts = sema_p_caused t k acts
  op_caused t (Some (op.SemaV k)) acts = sema_v_caused t k acts (best_sleeper s k.0) refl
  op_caused t (Some (op.Assign d to)) acts = λ m fit. (acts, refl)
  op_caused t (Some (op.Pbind u d)) acts = λ m fit. (acts, refl)

  -- Of all six.

  run_caused : GivesWay (cpu_of s c).duty → (t : ℕ) → Runs s c t → Caused w s c h (run_plan w s c t)
  run_caused free t runs = by (must_leave (cpu_of s c) (thread_of s t).body) refl
    where
      by : (b : Bool) → must_leave (cpu_of s c) (thread_of s t).body ≡ b
          → Caused w s c h (run_plan_of w s t (if b then Some (Make (leave_event c t (thread_of s t).body (thread_of s t).body.bound)) else None))
      by true e = leave_caused t (record { runs = runs; free = free; leaves = e }) (thread_of s t).body.bound refl
      by false e = op_caused t (op_of w t (thread_of s t).body) (record { runs = runs; free = free; stays = e; stands = refl })

  cpu_caused : GivesWay (cpu_of s c).duty → (o : Option ℕ) → runner s c ≡ o → Caused w s c h (cpu_plan_of w s c o)
  cpu_caused free None e = free_caused (record { nobody = e; free = free }) (cpu_of s c).closing refl
  cpu_caused free (Some t) e = run_caused free t e

  plan_caused : Serves s (cpu_of s c).duty → Caused w s c h (plan w s c)
  unfolding plan cpu_plan duty_plan nap_plan ageing_plan
  plan_caused serves = by (duty_plan_of w s (cpu_of s c).duty) refl (duty_caused (cpu_of s c).duty refl)
    where
      later : GivesWay (cpu_of s c).duty → (o q : Option Plan) → CausedIf w s c h o → CausedIf w s c h q → Caused w s c h (or_plan (first_of o q) (cpu_plan_of w s c (runner s c)))
      later free None None a b = cpu_caused free (runner s c) refl
      later free None (Some q) a b = b
      later free (Some o) q a b = a

      by : (o : Option Plan) → duty_plan_of w s (cpu_of s c).duty ≡ o → CausedIf w s c h o
          → Caused w s c h (or_plan (first_of o (first_of (napend_plan w s (first_due s c)) (ageing_plan_of w s c (cpu_of s c).duty))) (cpu_plan_of w s c (runner s c)))
      by None e a =
          let free = no_duty (cpu_of s c).duty serves e in
          later free (napend_plan w s (first_due s c)) (ageing_plan_of w s c (cpu_of s c).duty) (nap_caused free (first_due s c) refl) (ageing_caused (cpu_of s c).duty refl)
      by (Some p) e a = a

-- The one event that a processor may make has its cause, is allowed and comes with hints that fit.
pub cause_of : (w : Work) (s : State) (c : CpuId) (h : Option Hints) (e : Event) → Serves s (cpu_of s c.0).duty → next w s c h ≡ Some e → IsCause w s c.0 e
unfolding next wish reads
cause_of w s c h e serves is = by (nat_lt c.0 w.cpus && hints_fit (plan_reads w s c.0 (plan w s c.0)) h) refl is
  where
    ticked : (a b : Bool) → (not a || b) ≡ true → a ≡ true → b ≡ true
    ticked true b e is = e
    ticked false b e is = cc

    inner : hints_fit (plan_reads w s c.0 (plan w s c.0)) h ≡ true → (b : Bool) → (not (ticks (plan_event w s c.0 h (plan w s c.0))) || may_tick w s c.0) ≡ b
        → (if b then Some (plan_event w s c.0 h (plan w s c.0)) else None) ≡ Some e → IsCause w s c.0 e
    inner fit true ok at = subst (λ x. IsCause w s c.0 x) (same_Some (plan_event w s c.0 h (plan w s c.0)) e at) (plan_caused w s c.0 h serves (ticked (ticks (plan_event w s c.0 h (plan w s c.0))) (may_tick w s c.0) ok) fit)
    inner fit false ok at = cc

    by : (b : Bool) → (nat_lt c.0 w.cpus && hints_fit (plan_reads w s c.0 (plan w s c.0)) h) ≡ b
        → (if b then allowed w s c.0 (plan_event w s c.0 h (plan w s c.0)) else None) ≡ Some e → IsCause w s c.0 e
    by true ok at = inner (and_right (nat_lt c.0 w.cpus) _ ok) (not (ticks (plan_event w s c.0 h (plan w s c.0))) || may_tick w s c.0) refl at
    by false ok at = cc
