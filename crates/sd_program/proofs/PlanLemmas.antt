-- What an event that a processor may make tells of priorities, and that it has read only what such an event reads.
use Rattle.std.proofs.Common.{◌≡◌, ℕ, ◌<◌, Bool, true, false, not, ◌&&◌, ◌||◌, List, [], ◌∷◌, length, Option, Some, None, is_none, refl, sym, subst, arith}
use Rattle.std.specs.Prelude.{⊤, Result, Ok, Err, if◌then◌else◌, nat_lt, nat_le, ◌==◌}
use Rattle.std.proofs.lemmas.Bool.{eqb-true}
use Rattle.std.proofs.lemmas.Bool.Decides.{nat_tests}
use Rattle.std.proofs.lemmas.Option.{same_Some}
use Rattle.sd_basics.proofs.Truths.{and_right}
use Rattle.sd_types.specs.declared.numbers.CpuId.{CpuId}
use Rattle.sd_types.specs.declared.numbers.ChanId.{ChanId}
use Rattle.sd_types.specs.declared.numbers.LockId.{LockId}
use Rattle.sd_types.specs.declared.numbers.SetId.{SetId}
use Rattle.sd_types.specs.declared.numbers.Side.TheVariants.{Writer, Reader}
use Rattle.sd_types.specs.declared.numbers.ThreadId.{ThreadId}
use Rattle.sd_types.specs.declared.bodies.ThreadBody.{ThreadBody}
use Rattle.sd_types.specs.declared.classes.ClassParms.{ClassParms}
use Rattle.sd_types.specs.declared.events.Denied.{Denied}
use Rattle.sd_types.specs.declared.events.Duty.{Duty}
use Rattle.sd_types.specs.declared.events.Duty.TheVariants as duty
use Rattle.sd_types.specs.declared.events.Event.{Event}
use Rattle.sd_types.specs.declared.events.Event.TheVariants as event
use Rattle.sd_types.specs.declared.events.Hints.{Hints}
use Rattle.sd_types.specs.declared.events.Put.{Put}
use Rattle.sd_types.specs.declared.events.PrioAnswer.TheVariants.{Changed}
use Rattle.sd_types.specs.declared.events.Which.{Which}
use Rattle.sd_types.specs.declared.events.Which.TheVariants as which
use Rattle.sd_types.specs.declared.scripts.Op.{Op}
use Rattle.sd_types.specs.declared.scripts.Op.TheVariants as op
use Rattle.sd_types.specs.declared.works.Work.{Work}
use Rattle.sd_types.specs.Priorities.{eff_as}
use Rattle.sd_rules.specs.ClassRules.{end_of}
use Rattle.sd_machine.specs.declared.plans.Plan.{Plan}
use Rattle.sd_machine.specs.declared.plans.Plan.TheVariants.{Make, Place as PlaceIt, Search}
use Rattle.sd_machine.specs.declared.plans.Placement.{Placement}
use Rattle.sd_machine.specs.declared.plans.Placement.TheVariants as placement
use Rattle.sd_machine.specs.declared.plans.Requeue.{Requeue}
use Rattle.sd_machine.specs.declared.plans.Requeue.TheVariants.{Stays, Behind, Anew}
use Rattle.sd_state.specs.declared.states.LockState.{LockState}
use Rattle.sd_state.specs.declared.states.LockState.TheVariants.{Free, Owned, ReadHeld, Passing}
use Rattle.sd_state.specs.declared.states.State.{State}
use Rattle.sd_state.specs.States.{thread_of, cpu_of, eff_of}
use Rattle.sd_state.specs.Operations.{op_of}
use Rattle.sd_machine.specs.Bodies.{aged_class}
use Rattle.sd_machine.specs.Threads.{thread_id, lock_of, count_of, runner, best_ready, best_queued, best_unbound, best_waiter, best_sleeper, best_sleeper_below, first_due, next_to_age, priority_of}
use Rattle.sd_machine.specs.Choosing.{cpus_for, is_warm, is_settled, put_chosen, neighbours, victim_for}
use Rattle.sd_machine.specs.Dispatching.{must_leave, leave_event, dispatch_plan, steal_event, search_event}
use Rattle.sd_machine.specs.Sleeping.{woken_priority, napend_plan, wake_plan, rouse_plan}
use Rattle.sd_machine.specs.Locking.{owner_runs, enter_event, read_event, write_event, unblock_plan, grant_writer_plan, is_eligible, grant_reader_plan}
use Rattle.sd_machine.specs.Requeueing.{requeue_plan}
use Rattle.sd_machine.specs.Walking.{inherited_priority, walk_plan}
use Rattle.sd_machine.specs.Prioritising.{answer_to, new_class, prio_plan, age_plan}
use Rattle.sd_machine.specs.Conditions.{sema_p_if, sema_v_plan}
use Rattle.sd_machine.specs.SetChanges.{closing_plan}
use Rattle.sd_machine.specs.Plans.{first_of, duty_plan_of, duty_plan, nap_plan, ageing_plan_of, ageing_plan, op_plan, run_plan_of, run_plan, free_plan_of, cpu_plan_of, cpu_plan, or_plan, plan}
use Rattle.sd_machine.specs.Events.{event_of, plan_event, wish, may_tick, allowed, next}
use Rattle.sd_machine.specs.Hints.{hints_fit, placed_thread, plan_reads, read_of, reads, reads_for}
use Rattle.sd_types.specs.Events.{ticks}
use Rattle.sd_machine.specs.Hints as E
use Rattle.sd_entries.specs.Fitting as F

-- the priority that an event tells, where it is not in its cause
abbrev pub IsTold : Work → State → Event → Type 0
IsTold w s (event.Dispatch t p) = p ≡ eff_of s t.0
IsTold w s (event.Steal v t p) = p ≡ eff_of s t.0
IsTold w s (event.Age t p) = p ≡ eff_as (aged_class w (thread_of s t.0).body.class) (thread_of s t.0).body
IsTold w s e = ⊤

-- the event that a plan makes without reading tells it so; what it makes with what it read, does so always
abbrev IsToldBy : Work → State → Plan → Type 0
IsToldBy w s (Make e) = IsTold w s e
IsToldBy w s (PlaceIt placement p) = ⊤
IsToldBy w s Search = ⊤

abbrev IsToldIf : Work → State → Option Plan → Type 0
IsToldIf w s None = ⊤
IsToldIf w s (Some p) = IsToldBy w s p

module _ (w : Work) (s : State) (c : ℕ) where
  requeue_told : (r : Requeue) (make : Option Put → Event) (placement : Placement) (p : ℕ) → ((at : Option Put) → IsTold w s (make at)) → IsToldBy w s (requeue_plan r make placement p)
  requeue_told Stays make placement p told = told None
  requeue_told (Behind d) make placement p told = told _
  requeue_told Anew make placement p told = tt

  walk_told : (l : LockId) (x : LockState) → IsToldBy w s (walk_plan s l x)
  walk_told l (Owned o) = requeue_told _ (λ at. event.Will l o (inherited_priority s l o.0) at) _ _ (λ at. tt)
  walk_told l Free = tt
  walk_told l (ReadHeld n) = tt
  walk_told l (Passing d r) = tt

  unblock_told : (l : LockId) (o : Option ℕ) → IsToldIf w s (unblock_plan w s l o)
  unblock_told l None = tt
  unblock_told l (Some u) = tt

  grant_writer_told : (l : LockId) (o : Option ℕ) → IsToldIf w s (grant_writer_plan w s l o)
  grant_writer_told l None = tt
  grant_writer_told l (Some u) = tt

  grant_reader_told : (l : LockId) (o : Option ℕ) → IsToldBy w s (grant_reader_plan w s l o)
  grant_reader_told l None = tt
  grant_reader_told l (Some u) = by (is_eligible (priority_of s (Some u)) (priority_of s (best_waiter s l.0 Writer)))
    where
      by : (b : Bool) → IsToldBy w s (if b then PlaceIt (placement.Grant l (thread_id u)) (woken_priority w s u) else Make (event.Passed l))
      by true = tt
      by false = tt

  rouse_told : (k : ChanId) (o : Option ℕ) → IsToldBy w s (rouse_plan w s k o)
  rouse_told k None = tt
  rouse_told k (Some u) = tt

  duty_told : (d : Duty) → IsToldIf w s (duty_plan_of w s d)
  duty_told duty.Nothing = tt
  duty_told (duty.Walk l seek key) = walk_told l (lock_of s l.0)
  duty_told (duty.WakeMutex l) = unblock_told l (best_waiter s l.0 Writer)
  duty_told (duty.GrantWriter l) = grant_writer_told l (best_waiter s l.0 Writer)
  duty_told (duty.GrantReaders l) = grant_reader_told l (best_waiter s l.0 Reader)
  duty_told (duty.Rouse k below) = rouse_told k (best_sleeper_below s k.0 below)
  duty_told (duty.Age u) = tt

  nap_told : (o : Option ℕ) → IsToldIf w s (napend_plan w s o)
  nap_told None = tt
  nap_told (Some t) = tt

  age_told : (o : Option ℕ) → IsToldIf w s (age_plan w s o)
  age_told None = tt
  age_told (Some t) = refl

  ageing_told : (d : Duty) → IsToldIf w s (ageing_plan_of w s c d)
  ageing_told (duty.Age u) = age_told (next_to_age s c u.0)
  ageing_told d = tt

  leave_told : (t : ℕ) (b : ThreadBody) (o : Option CpuId) → IsTold w s (leave_event c t b o)
  leave_told t b None = tt
  leave_told t b (Some d) = by (d.0 == c)
    where
      by : (x : Bool) → IsTold w s (if x then event.Preempt (thread_id t) (end_of b.back) else event.Away (thread_id t) d)
      by true = tt
      by false = tt

  dispatch_told : (o : Option ℕ) → IsToldBy w s (dispatch_plan s o)
  dispatch_told None = tt
  dispatch_told (Some t) = refl

  closing_told : (to : SetId) (o : Option ℕ) → IsToldBy w s (closing_plan s to o)
  closing_told to None = tt
  closing_told to (Some t) = tt

  free_told : (o : Option SetId) → IsToldBy w s (free_plan_of s c o)
  free_told None = dispatch_told (best_ready s c)
  free_told (Some to) = closing_told to (best_queued s c)

  wake_told : (t : ℕ) (k : ChanId) (o : Option ℕ) → IsToldBy w s (wake_plan w s t k o)
  wake_told t k None = tt
  wake_told t k (Some u) = tt

  sema_v_told : (t : ℕ) (k : ChanId) (o : Option ℕ) → IsToldBy w s (sema_v_plan w s t k o)
  sema_v_told t k None = tt
  sema_v_told t k (Some u) = tt

  sema_p_told : (t : ℕ) (k : ChanId) (b : Bool) → IsTold w s (sema_p_if b t k)
  sema_p_told t k true = tt
  sema_p_told t k false = tt

  two_told : (b : Bool) (e f : Event) → IsTold w s e → IsTold w s f → IsTold w s (if b then e else f)
  two_told true e f p q = p
  two_told false e f p q = q

  enter_told : (t : ℕ) (l : LockId) (x : LockState) → IsTold w s (enter_event s t l x)
  enter_told t l Free = tt
  enter_told t l (Owned o) = two_told (owner_runs s o) (event.Spin (thread_id t) l) (event.Block (thread_id t) l) tt tt
  enter_told t l (ReadHeld n) = tt
  enter_told t l (Passing d r) = tt

  read_told : (t : ℕ) (l : LockId) (x : LockState) → IsTold w s (read_event s t l x)
  read_told t l Free = tt
  read_told t l (Owned o) = tt
  read_told t l (ReadHeld n) = two_told (is_none (best_waiter s l.0 Writer)) (event.Read (thread_id t) l) (event.Block (thread_id t) l) tt tt
  read_told t l (Passing d r) = tt

  write_told : (t : ℕ) (l : LockId) (x : LockState) → IsTold w s (write_event t l x)
  write_told t l Free = tt
  write_told t l (Owned o) = tt
  write_told t l (ReadHeld n) = tt
  write_told t l (Passing d r) = tt

  prio_told : (t : ℕ) (u : ThreadId) (a : Result ClassParms Denied) → IsToldBy w s (prio_plan w s t u a)
  prio_told t u (Err denied) = tt
  prio_told t u (Ok parms) = requeue_told _ (λ at. event.Prio (thread_id t) u (Changed (eff_as (new_class w s u.0 parms) (thread_of s u.0).body) at)) _ _ (λ at. tt)

  op_told : (t : ℕ) (o : Option Op) → IsToldBy w s (op_plan w s t o)
  unfolding op_plan
  op_told t None = tt
  op_told t (Some (op.Run n)) = tt
  op_told t (Some op.Yield) = tt
  op_told t (Some (op.Nap n)) = tt
  op_told t (Some (op.Sleep k)) = tt
  op_told t (Some (op.Wake k)) = wake_told t k (best_sleeper s k.0)
  op_told t (Some (op.WakeAll k)) = tt
  op_told t (Some (op.Enter l)) = enter_told t l (lock_of s l.0)
  op_told t (Some (op.Read l)) = read_told t l (lock_of s l.0)
  op_told t (Some (op.Write l)) = write_told t l (lock_of s l.0)
  op_told t (Some (op.Exit l)) = tt
  op_told t (Some (op.Prio u r)) = prio_told t u (answer_to w s t u.0 r)
  op_told t (Some (op.CvWait k l)) = tt
  op_told t (Some (op.SemaP k)) = sema_p_told t k (nat_le 1 (count_of s k.0))
  op_told t (Some (op.SemaV k)) = sema_v_told t k (best_sleeper s k.0)
  op_told t (Some (op.Assign d to)) = tt
  op_told t (Some (op.Pbind u d)) = tt

  run_told : (t : ℕ) → IsToldBy w s (run_plan w s c t)
  run_told t = by (must_leave (cpu_of s c) (thread_of s t).body)
    where
      by : (b : Bool) → IsToldBy w s (run_plan_of w s t (if b then Some (Make (leave_event c t (thread_of s t).body (thread_of s t).body.bound)) else None))
      by true = leave_told t (thread_of s t).body (thread_of s t).body.bound
      by false = op_told t (op_of w t (thread_of s t).body)

  cpu_told : (o : Option ℕ) → IsToldBy w s (cpu_plan_of w s c o)
  cpu_told None = free_told (cpu_of s c).closing
  cpu_told (Some t) = run_told t

  first_told : (a b d : Option Plan) (p : Plan) → IsToldIf w s a → IsToldIf w s b → IsToldIf w s d → IsToldBy w s p → IsToldBy w s (or_plan (first_of a (first_of b d)) p)
  first_told (Some a) b d p x y z q = x
  first_told None (Some b) d p x y z q = y
  first_told None None (Some d) p x y z q = z
  first_told None None None p x y z q = q

  plan_told : IsToldBy w s (plan w s c)
  unfolding plan cpu_plan duty_plan nap_plan ageing_plan
  plan_told =
      first_told (duty_plan_of w s (cpu_of s c).duty) (napend_plan w s (first_due s c)) (ageing_plan_of w s c (cpu_of s c).duty) (cpu_plan_of w s c (runner s c))
      (duty_told (cpu_of s c).duty) (nap_told (first_due s c)) (ageing_told (cpu_of s c).duty) (cpu_told (runner s c))

  -- what a search comes to tells the priority of the thread that is stolen
  steal_told : (v : CpuId) (o : Option ℕ) → IsTold w s (steal_event s v o)
  steal_told v None = tt
  steal_told v (Some t) = refl

  search_told : (o : Option CpuId) → IsTold w s (search_event s o)
  search_told None = tt
  search_told (Some v) = steal_told v (best_unbound s v.0)

  placed_told : (p : Placement) (at : Put) → IsTold w s (event_of p at)
  placed_told (placement.Napend t) at = tt
  placed_told p at = tt

  event_told : (h : Option Hints) (p : Plan) → IsToldBy w s p → IsTold w s (plan_event w s c h p)
  event_told h (Make e) told = told
  event_told h (PlaceIt p n) told = placed_told p (put_chosen w s c (placed_thread p) n h)
  event_told h Search told = search_told (victim_for s c h)

-- ---- what was read

nothing_read : (h : Option Hints) (may : Option Which) → hints_fit None h ≡ true → F.are_allowed_hints may h ≡ true
nothing_read None may fit = refl
nothing_read (Some h) may fit = cc

some_read : (cpus : List CpuId) (h : Hints) (a : Which) → a ≡ h.which → 0 < length cpus → hints_fit (Some (a, cpus)) (Some h) ≡ true → F.are_allowed_hints (Some a) (Some h) ≡ true
some_read cpus h which.Running is some fit =
    let same = eqb-true (length h.numbers.items) (length cpus) (rw (sym is) at fit) in
    let more : nat_lt 0 (length h.numbers.items) ≡ true = grind (arith, nat_tests) in
    rw (sym is, more) refl
some_read cpus h which.Queued is some fit =
    let same = eqb-true (length h.numbers.items) (length cpus) (rw (sym is) at fit) in
    let more : nat_lt 0 (length h.numbers.items) ≡ true = grind (arith, nat_tests) in
    rw (sym is, more) refl

-- what is read is of this kind
kind_of : (a : Which) (cpus : List CpuId) (h : Hints) → hints_fit (Some (a, cpus)) (Some h) ≡ true → a ≡ h.which
kind_of a cpus h fit = by a h.which fit
  where
    by : (a b : Which) → ((E.same_which a b) && (length h.numbers.items == length cpus)) ≡ true → a ≡ b
    by which.Running which.Running e = refl
    by which.Queued which.Queued e = refl
    by which.Running which.Queued e = cc
    by which.Queued which.Running e = cc

kind_read : (a : Which) (cpus : List CpuId) (h : Option Hints) → 0 < length cpus → hints_fit (Some (a, cpus)) h ≡ true → F.are_allowed_hints (Some a) h ≡ true
kind_read a cpus None some fit = refl
kind_read a cpus (Some h) some fit = some_read cpus h a (kind_of a cpus h fit) some fit

module _ (w : Work) (s : State) (c : ℕ) (h : Option Hints) where
  place_read : (t : ℕ) → 0 < length (cpus_for w s t) → hints_fit (reads_for w s c t) h ≡ true → F.are_allowed_hints (Some which.Running) h ≡ true
  unfolding reads_for
  place_read t some = by (is_settled (cpus_for w s t) (thread_of s t).body.last (is_warm s c t))
    where
      by : (b : Bool) → hints_fit (if b then None else Some (which.Running, cpus_for w s t)) h ≡ true → F.are_allowed_hints (Some which.Running) h ≡ true
      by true fit = nothing_read h (Some which.Running) fit
      by false fit = kind_read which.Running (cpus_for w s t) h some fit

  search_read : (cpus : List CpuId) → hints_fit (read_of cpus) h ≡ true → F.are_allowed_hints (Some which.Queued) h ≡ true
  search_read [] fit = nothing_read h (Some which.Queued) fit
  search_read (d ∷ ds) fit = kind_read which.Queued (d ∷ ds) h (omega arith) fit

  steal_reads : (v : CpuId) (o : Option ℕ) → F.may_read (steal_event s v o) ≡ Some which.Queued
  steal_reads v None = refl
  steal_reads v (Some t) = refl

  search_reads : (o : Option CpuId) → F.may_read (search_event s o) ≡ Some which.Queued
  search_reads None = refl
  search_reads (Some v) = steal_reads v (best_unbound s v.0)

  placed_reads : (p : Placement) (at : Put) → F.may_read (event_of p at) ≡ Some which.Running
  placed_reads (placement.Napend t) at = refl
  placed_reads p at = refl

  event_read : (p : Plan) → ((t : ℕ) → 0 < length (cpus_for w s t)) → hints_fit (plan_reads w s c p) h ≡ true → F.are_allowed_hints (F.may_read (plan_event w s c h p)) h ≡ true
  event_read (Make e) some fit = nothing_read h (F.may_read e) fit
  event_read (PlaceIt p n) some fit =
      subst (λ m. F.are_allowed_hints m h ≡ true) (sym (placed_reads p (put_chosen w s c (placed_thread p) n h))) (place_read (placed_thread p) (some (placed_thread p)) fit)
  event_read Search some fit = subst (λ m. F.are_allowed_hints m h ≡ true) (sym (search_reads (victim_for s c h))) (search_read (neighbours s c) fit)

-- ---- the event that a processor may make

-- it is what its plan makes of what it read, which fits
pub record IsPlanned (w : Work) (s : State) (c : ℕ) (h : Option Hints) (e : Event) : Type 0 where
  pub fit : hints_fit (plan_reads w s c (plan w s c)) h ≡ true
  pub is : plan_event w s c h (plan w s c) ≡ e

planned : (w : Work) (s : State) (c : CpuId) (h : Option Hints) (e : Event) → next w s c h ≡ Some e → IsPlanned w s c.0 h e
unfolding next wish reads
planned w s c h e is = by (nat_lt c.0 w.cpus && hints_fit (plan_reads w s c.0 (plan w s c.0)) h) refl is
  where
    inner : (b : Bool) → (if b then Some (plan_event w s c.0 h (plan w s c.0)) else None) ≡ Some e → plan_event w s c.0 h (plan w s c.0) ≡ e
    inner true at = same_Some (plan_event w s c.0 h (plan w s c.0)) e at
    inner false at = cc

    by : (b : Bool) → (nat_lt c.0 w.cpus && hints_fit (plan_reads w s c.0 (plan w s c.0)) h) ≡ b
        → (if b then allowed w s c.0 (plan_event w s c.0 h (plan w s c.0)) else None) ≡ Some e → IsPlanned w s c.0 h e
    by true ok at = record { fit = and_right (nat_lt c.0 w.cpus) _ ok; is = inner (not (ticks (plan_event w s c.0 h (plan w s c.0))) || may_tick w s c.0) at }
    by false ok at = cc

pub tells : (w : Work) (s : State) (c : CpuId) (h : Option Hints) (e : Event) → next w s c h ≡ Some e → IsTold w s e
tells w s c h e may = let p = planned w s c h e may in subst (IsTold w s) p.is (event_told w s c.0 h (plan w s c.0) (plan_told w s c.0))

pub reads_rightly : (w : Work) (s : State) (c : CpuId) (h : Option Hints) (e : Event) → ((t : ℕ) → 0 < length (cpus_for w s t)) → next w s c h ≡ Some e → F.are_allowed_hints (F.may_read e) h ≡ true
reads_rightly w s c h e some may =
    let p = planned w s c h e may in
    subst (λ x. F.are_allowed_hints (F.may_read x) h ≡ true) p.is (event_read w s c.0 h (plan w s c.0) some p.fit)
