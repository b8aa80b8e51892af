-- What a processor is about to do: the same in states whose keys have the same order.
use Rattle.std.proofs.Common.{◌≡◌, ℕ, ◌+◌, ◌==◌, not, ◌&&◌, ◌||◌, length, ℤ, Option, Some, None, Result, Ok, Err, is_none, is_some, refl, sym, ap, ◌∙◌}
use Rattle.std.specs.Prelude.{if◌then◌else◌, nat_le, nat_lt}
use Rattle.sd_types.specs.declared.numbers.ChanId.{ChanId}
use Rattle.sd_types.specs.declared.numbers.CpuId.{CpuId}
use Rattle.sd_types.specs.declared.numbers.LockId.{LockId}
use Rattle.sd_types.specs.declared.numbers.SetId.{SetId}
use Rattle.sd_types.specs.declared.numbers.Side.TheVariants.{Writer, Reader}
use Rattle.sd_types.specs.declared.numbers.ThreadId.{ThreadId}
use Rattle.sd_types.specs.declared.bodies.ThreadBody.{ThreadBody}
use Rattle.sd_types.specs.declared.classes.ClassParms.{ClassParms}
use Rattle.sd_types.specs.declared.events.AssignAnswer.TheVariants as assign
use Rattle.sd_types.specs.declared.events.BindAnswer.TheVariants as bind_answer
use Rattle.sd_types.specs.declared.events.Denied.{Denied}
use Rattle.sd_types.specs.declared.events.Duty.{Duty}
use Rattle.sd_types.specs.declared.events.Duty.TheVariants as duty
use Rattle.sd_types.specs.declared.events.Event.TheVariants as event
use Rattle.sd_types.specs.declared.events.PrioAnswer.TheVariants.{Changed}
use Rattle.sd_types.specs.declared.scripts.Op.{Op}
use Rattle.sd_types.specs.declared.scripts.Op.TheVariants as op
use Rattle.sd_types.specs.declared.works.Work.{Work}
use Rattle.sd_types.specs.Priorities.{eff_as}
use Rattle.sd_machine.specs.declared.plans.Placement.TheVariants as placement
use Rattle.sd_machine.specs.declared.plans.Plan.{Plan}
use Rattle.sd_machine.specs.declared.plans.Plan.TheVariants.{Make, Place as PlaceIt}
use Rattle.sd_machine.specs.declared.plans.Requeue.TheVariants.{Stays}
use Rattle.sd_rules.specs.Priocntl.{entered}
use Rattle.sd_state.specs.declared.states.CpuState.{CpuState}
use Rattle.sd_state.specs.declared.states.LockState.{LockState}
use Rattle.sd_state.specs.declared.states.LockState.TheVariants.{Free, Owned, ReadHeld, Passing}
use Rattle.sd_state.specs.declared.states.Place.{Place}
use Rattle.sd_state.specs.declared.states.Place.TheVariants.{Running, Queued, RealTime, Waiting, Asleep, Napping, Ended}
use Rattle.sd_state.specs.declared.states.State.{State}
use Rattle.sd_state.specs.States.{cpu_of, thread_of, set_of, eff_of}
use Rattle.sd_state.specs.Operations.{op_of}
use Rattle.sd_machine.specs.Bodies.{aged_class, eff_as_with, woken_class}
use Rattle.sd_machine.specs.Conditions.{sema_p_if, sema_v_plan}
use Rattle.sd_machine.specs.Dispatching.{dispatch_plan, leave_plan}
use Rattle.sd_machine.specs.Locking.{enter_event, grant_reader_plan, grant_writer_plan, is_eligible, read_event, unblock_plan, write_event}
use Rattle.sd_machine.specs.Plans.{ageing_plan, ageing_plan_of, cpu_plan, cpu_plan_of, duty_plan, duty_plan_of, first_of, free_plan_of, nap_plan, op_plan, or_plan, plan, run_plan, run_plan_of}
use Rattle.sd_machine.specs.Prioritising.{age_plan, answer_to, change_plan, is_privileged, new_class, prio_plan, uid_of}
use Rattle.sd_machine.specs.Requeueing.{requeue, requeue_at, requeue_plan}
use Rattle.sd_machine.specs.SetChanges.{assign_answer, bind_put, bind_to, bound_put, closing_plan, is_closing, is_misbound, unbound_put}
use Rattle.sd_machine.specs.Sleeping.{napend_plan, rouse_key, rouse_plan, wake_plan, woken_priority}
use Rattle.sd_machine.specs.Threads.{best_queued, best_ready, best_sleeper, best_sleeper_below, best_waiter, first_due, lock_of, next_to_age, open_of, runner, runs_somewhere, thread_id}
use Rattle.sd_machine.specs.Walking.{inherited_priority, walk_plan, will_plan}
use Rattle.sd_store.specs.Walks.{next_to_rouse}
use Rattle.sd_encoding.specs.Order.{key_in}
use Rattle.sd_encoding.proofs.AfterLemmas.{answer_same, ended_same}
use Rattle.sd_encoding.proofs.AlikeLemmas.{IsBlind, blind_place, body_same, cpu_alike, duty_with, key_or_zero, place_alike}
use Rattle.sd_encoding.proofs.PutLemmas.{priority_same}
use Rattle.sd_encoding.proofs.SeekLemmas.{duty_is, rouse_same}
use Rattle.sd_encoding.proofs.SourceLemmas.{AreAlike}
use Rattle.sd_encoding.proofs.TellLemmas.{best_queued_same, best_ready_same, best_sleeper_same, best_waiter_same, count_of_same, eff_same, first_due_same, greatest_same, lock_same, next_to_age_same, open_same, others_same, runner_same, set_same}

requeue_blind : (p : ℕ) (bound : Option CpuId) → IsBlind (λ place. requeue_at place p bound)
requeue_blind p bound (Running c) = refl
requeue_blind p bound _ = refl

runs_blind : IsBlind runs_somewhere
runs_blind (Running c) = refl
runs_blind _ = refl

bound_blind : (d : CpuId) → IsBlind (bound_put d)
bound_blind d (Running c) = refl
bound_blind d _ = refl

unbound_blind : (p : ℕ) (bound : Option CpuId) → IsBlind (unbound_put p bound)
unbound_blind p None place = refl
unbound_blind p (Some b) (Running c) = refl
unbound_blind p (Some b) (Queued c key) = refl
unbound_blind p (Some b) (RealTime q key) = refl
unbound_blind p (Some b) (Waiting l side key) = refl
unbound_blind p (Some b) (Asleep k key) = refl
unbound_blind p (Some b) (Napping c due) = refl
unbound_blind p (Some b) Ended = refl

module _ (n m : ℕ) (x s : State) (h : AreAlike n m x s) where
  body : (t : ℕ) → (thread_of x t).body ≡ (thread_of s t).body
  body t = body_same x s h.same.bare t

  blind : {A : Type 0} (f : Place → A) → IsBlind f → (t : ℕ) → f (thread_of x t).place ≡ f (thread_of s t).place
  blind f b t = blind_place f b (thread_of x t).place (thread_of s t).place (place_alike x s h.same.bare t)

  pub woken_priority_same : (w : Work) (t : ℕ) → woken_priority w x t ≡ woken_priority w s t
  woken_priority_same w t i = eff_as (woken_class w (body t i).class) (body t i)

  requeue_same : (t p : ℕ) → requeue (thread_of x t).place (eff_of x t) p (thread_of x t).body.bound ≡ requeue (thread_of s t).place (eff_of s t) p (thread_of s t).body.bound
  requeue_same t p =
      (λ i. requeue (thread_of x t).place (eff_same x s h.same t i) p (body t i).bound)
      ∙ ap (λ r. if eff_of s t == p then Stays else r) (blind (λ place. requeue_at place p (thread_of s t).body.bound) (requeue_blind p (thread_of s t).body.bound) t)

  -- The duty.

  will_same : (l : LockId) (o : ThreadId) (p : ℕ) → will_plan x l o p ≡ will_plan s l o p
  will_same l o p i = requeue_plan (requeue_same o.0 p i) (λ at. event.Will l o p at) (placement.Will l o p) p

  inherited_same : (l : LockId) (o : ℕ) → inherited_priority x l o ≡ inherited_priority s l o
  inherited_same l o i = eff_as_with (body o i).class l (greatest_same x s h.same l.0 i) (body o i)

  walk_by : (l : LockId) (lock : LockState) → walk_plan x l lock ≡ walk_plan s l lock
  walk_by l (Owned o) = will_same l o (inherited_priority x l o.0) ∙ ap (will_plan s l o) (inherited_same l o.0)
  walk_by l Free = refl
  walk_by l (ReadHeld r) = refl
  walk_by l (Passing c r) = refl

  unblock_by : (w : Work) (l : LockId) (u : Option ℕ) → unblock_plan w x l u ≡ unblock_plan w s l u
  unblock_by w l None = refl
  unblock_by w l (Some u) = λ i. Some (PlaceIt (placement.Unblock l (thread_id u)) (woken_priority_same w u i))

  writer_by : (w : Work) (l : LockId) (u : Option ℕ) → grant_writer_plan w x l u ≡ grant_writer_plan w s l u
  writer_by w l None = refl
  writer_by w l (Some u) = λ i. Some (PlaceIt (placement.Grant l (thread_id u)) (eff_as_with (woken_class w (body u i).class) l (others_same x s h.same l u i) (body u i)))

  reader_by : (w : Work) (l : LockId) (u : Option ℕ) → grant_reader_plan w x l u ≡ grant_reader_plan w s l u
  reader_by w l None = refl
  reader_by w l (Some u) =
      λ i. if is_eligible (priority_same n m x s h (Some u) (Some u) refl i) (priority_same n m x s h (best_waiter x l.0 Writer) (best_waiter s l.0 Writer) (best_waiter_same x s h.same l.0 Writer) i)
      then PlaceIt (placement.Grant l (thread_id u)) (woken_priority_same w u i) else Make (event.Passed l)

  rouse_by : (w : Work) (k : ChanId) (u : Option ℕ) → rouse_plan w x k u ≡ rouse_plan w s k u
  rouse_by w k None = refl
  rouse_by w k (Some u) = λ i. PlaceIt (placement.Rouse k (thread_id u)) (woken_priority_same w u i)

  sleeper_below : (c : CpuId) (k : ChanId) (below j : ℤ) → (cpu_of x c.0).duty ≡ duty.Rouse k below → (cpu_of s c.0).duty ≡ duty.Rouse k j
      → best_sleeper_below x k.0 below ≡ best_sleeper_below s k.0 j
  unfolding next_to_rouse
  sleeper_below c k below j e f =
      ap (λ d. best_sleeper_below x k.0 (rouse_key d)) (sym e) ∙ rouse_same n m x s h c k ∙ ap (λ d. best_sleeper_below s k.0 (rouse_key d)) f

  duty_by : (w : Work) (c : CpuId) (d : Duty) (j : ℤ) → (cpu_of x c.0).duty ≡ d → (cpu_of s c.0).duty ≡ duty_with d j → duty_plan_of w x d ≡ duty_plan_of w s (duty_with d j)
  duty_by w c duty.Nothing j e f = refl
  duty_by w c (duty.Walk l seek key) j e f = ap Some (walk_by l (lock_of x l.0) ∙ ap (walk_plan s l) (lock_same x s h.same l.0))
  duty_by w c (duty.WakeMutex l) j e f = unblock_by w l (best_waiter x l.0 Writer) ∙ ap (unblock_plan w s l) (best_waiter_same x s h.same l.0 Writer)
  duty_by w c (duty.GrantWriter l) j e f = writer_by w l (best_waiter x l.0 Writer) ∙ ap (grant_writer_plan w s l) (best_waiter_same x s h.same l.0 Writer)
  duty_by w c (duty.GrantReaders l) j e f = ap Some (reader_by w l (best_waiter x l.0 Reader) ∙ ap (grant_reader_plan w s l) (best_waiter_same x s h.same l.0 Reader))
  duty_by w c (duty.Rouse k below) j e f = ap Some (rouse_by w k (best_sleeper_below x k.0 below) ∙ ap (rouse_plan w s k) (sleeper_below c k below j e f))
  duty_by w c (duty.Age u) j e f = refl

  duty_plan_same : (w : Work) (c : CpuId) → duty_plan w x c.0 ≡ duty_plan w s c.0
  unfolding duty_plan
  duty_plan_same w c =
      let j = key_or_zero (key_in (cpu_of s c.0).duty) in
      duty_by w c (cpu_of x c.0).duty j refl (duty_is n m x s h c.0) ∙ ap (duty_plan_of w s) (sym (duty_is n m x s h c.0))

  -- Naps and ageing.

  napend_by : (w : Work) (u : Option ℕ) → napend_plan w x u ≡ napend_plan w s u
  napend_by w None = refl
  napend_by w (Some u) = λ i. Some (PlaceIt (placement.Napend (thread_id u)) (woken_priority_same w u i))

  nap_plan_same : (w : Work) (c : ℕ) → nap_plan w x c ≡ nap_plan w s c
  unfolding nap_plan
  nap_plan_same w c = napend_by w (first_due x c) ∙ ap (napend_plan w s) (first_due_same x s h.same c)

  age_by : (w : Work) (u : Option ℕ) → age_plan w x u ≡ age_plan w s u
  age_by w None = refl
  age_by w (Some u) = λ i. Some (Make (event.Age (thread_id u) (eff_as (aged_class w (body u i).class) (body u i))))

  ageing_by : (w : Work) (c : ℕ) (d : Duty) (j : ℤ) → ageing_plan_of w x c d ≡ ageing_plan_of w s c (duty_with d j)
  ageing_by w c (duty.Age u) j = age_by w (next_to_age x c u.0) ∙ ap (age_plan w s) (next_to_age_same x s h.same c u.0)
  ageing_by w c d j = refl

  ageing_plan_same : (w : Work) (c : ℕ) → ageing_plan w x c ≡ ageing_plan w s c
  unfolding ageing_plan
  ageing_plan_same w c =
      ageing_by w c (cpu_of x c).duty (key_or_zero (key_in (cpu_of s c).duty)) ∙ ap (ageing_plan_of w s c) (sym (duty_is n m x s h c))

  -- Operations.

  wake_by : (w : Work) (t : ℕ) (k : ChanId) (u : Option ℕ) → wake_plan w x t k u ≡ wake_plan w s t k u
  wake_by w t k None = refl
  wake_by w t k (Some u) = λ i. PlaceIt (placement.Wake (thread_id t) k (thread_id u)) (woken_priority_same w u i)

  sema_v_by : (w : Work) (t : ℕ) (k : ChanId) (u : Option ℕ) → sema_v_plan w x t k u ≡ sema_v_plan w s t k u
  sema_v_by w t k None = λ i. Make (event.SemaVCount (thread_id t) k (count_of_same x s h.same k.0 i + 1))
  sema_v_by w t k (Some u) = λ i. PlaceIt (placement.SemaVWake (thread_id t) k (thread_id u)) (woken_priority_same w u i)

  enter_by : (t : ℕ) (l : LockId) (lock : LockState) → enter_event x t l lock ≡ enter_event s t l lock
  enter_by t l (Owned o) = ap (λ r. if r then event.Spin (thread_id t) l else event.Block (thread_id t) l) (blind runs_somewhere runs_blind o.0)
  enter_by t l Free = refl
  enter_by t l (ReadHeld r) = refl
  enter_by t l (Passing c r) = refl

  read_by : (t : ℕ) (l : LockId) (lock : LockState) → read_event x t l lock ≡ read_event s t l lock
  read_by t l (ReadHeld r) = ap (λ o. if is_none o then event.Read (thread_id t) l else event.Block (thread_id t) l) (best_waiter_same x s h.same l.0 Writer)
  read_by t l Free = refl
  read_by t l (Owned o) = refl
  read_by t l (Passing c r) = refl

  change_same : (t : ℕ) (u : ThreadId) (p : ℕ) → change_plan x t u p ≡ change_plan s t u p
  change_same t u p i = requeue_plan (requeue_same u.0 p i) (λ at. event.Prio (thread_id t) u (Changed p at)) (placement.Prio (thread_id t) u p) p

  prio_by : (w : Work) (t : ℕ) (u : ThreadId) (answer : Result ClassParms Denied) → prio_plan w x t u answer ≡ prio_plan w s t u answer
  prio_by w t u (Err denied) = refl
  prio_by w t u (Ok parms) =
      change_same t u (eff_as (new_class w x u.0 parms) (thread_of x u.0).body) ∙ ap (change_plan s t u) (λ i. eff_as (entered w.ts w.fx w.rt parms (body u.0 i).class) (body u.0 i))

  assign_same : (w : Work) (t : ℕ) (d : CpuId) (at : SetId) → assign_answer w x t d at ≡ assign_answer w s t d at
  unfolding assign_answer
  assign_same w t d at =
      let cpu = cpu_alike x s h.same.bare d.0 in
      let alone : (length (open_of x (cpu_of x d.0).set.0) == 1) ≡ (length (open_of s (cpu_of s d.0).set.0) == 1) =
      ap (λ cpus. length cpus == 1) (open_same x s h.same (cpu_of x d.0).set.0) ∙ ap (λ p. length (open_of s p) == 1) (set_same x s h.same d.0) in
      λ i. if not (is_privileged w t) then assign.EPERM
      else if (cpu i).set.0 == at.0 then assign.EINVAL
      else if is_some (cpu i).closing || alone i || nat_lt 0 (cpu i).bound then assign.EBUSY
      else assign.Changed

  bind_put_by : (u : ℕ) (d : Option CpuId) → bind_put x u d ≡ bind_put s u d
  bind_put_by u (Some d) = blind (bound_put d) (bound_blind d) u
  bind_put_by u None = blind (unbound_put (eff_of x u) (thread_of x u).body.bound) (unbound_blind (eff_of x u) (thread_of x u).body.bound) u ∙ (λ i. unbound_put (eff_same x s h.same u i) (body u i).bound (thread_of s u).place)

  misbound_by : (w : Work) (u : ℕ) (bound d : Option CpuId) → is_misbound w x u bound d ≡ is_misbound w s u bound d
  misbound_by w u bound None = refl
  misbound_by w u bound (Some d) = ap (λ p. is_some bound || not (p == (set_of w u).0)) (set_same x s h.same d.0)

  closing_by : (d : Option CpuId) → is_closing x d ≡ is_closing s d
  closing_by None = refl
  closing_by (Some d) = ap (λ (y : CpuState). is_some y.closing) (cpu_alike x s h.same.bare d.0)

  bind_same : (w : Work) (t u : ℕ) (d : Option CpuId) → bind_to w x t u d ≡ bind_to w s t u d
  unfolding bind_to
  bind_same w t u d =
      let misbound : is_misbound w x u (thread_of x u).body.bound d ≡ is_misbound w s u (thread_of s u).body.bound d =
      misbound_by w u (thread_of x u).body.bound d ∙ ap (λ (b : ThreadBody). is_misbound w s u b.bound d) (body u) in
      λ i. if ended_same n m x s h u i then bind_answer.ESRCH
      else if misbound i then bind_answer.EINVAL
      else if not (is_privileged w t) && not (uid_of w t == uid_of w u) then bind_answer.EPERM
      else if closing_by d i then bind_answer.EBUSY
      else bind_answer.Changed (bind_put_by u d i)

  op_by : (w : Work) (t : ℕ) (o : Option Op) → op_plan w x t o ≡ op_plan w s t o
  unfolding op_plan
  op_by w t None = refl
  op_by w t (Some (op.Run r)) = refl
  op_by w t (Some op.Yield) = refl
  op_by w t (Some (op.Nap r)) = refl
  op_by w t (Some (op.Sleep k)) = refl
  op_by w t (Some (op.Wake k)) = wake_by w t k (best_sleeper x k.0) ∙ ap (wake_plan w s t k) (best_sleeper_same x s h.same k.0)
  op_by w t (Some (op.WakeAll k)) = refl
  op_by w t (Some (op.Enter l)) = ap Make (enter_by t l (lock_of x l.0) ∙ ap (enter_event s t l) (lock_same x s h.same l.0))
  op_by w t (Some (op.Read l)) = ap Make (read_by t l (lock_of x l.0) ∙ ap (read_event s t l) (lock_same x s h.same l.0))
  op_by w t (Some (op.Write l)) = ap (λ z. Make (write_event t l z)) (lock_same x s h.same l.0)
  op_by w t (Some (op.Exit l)) = refl
  op_by w t (Some (op.Prio u r)) = prio_by w t u (answer_to w x t u.0 r) ∙ ap (prio_plan w s t u) (answer_same n m x s h w t u.0 r)
  op_by w t (Some (op.CvWait k l)) = refl
  op_by w t (Some (op.SemaP k)) = ap (λ c. Make (sema_p_if (nat_le 1 c) t k)) (count_of_same x s h.same k.0)
  op_by w t (Some (op.SemaV k)) = sema_v_by w t k (best_sleeper x k.0) ∙ ap (sema_v_plan w s t k) (best_sleeper_same x s h.same k.0)
  op_by w t (Some (op.Assign d at)) = ap (λ answer. Make (event.Assign (thread_id t) d at answer)) (assign_same w t d at)
  op_by w t (Some (op.Pbind u d)) = ap (λ answer. Make (event.Bind (thread_id t) u d answer)) (bind_same w t u.0 d)

  -- The processor.

  op_same : (w : Work) (t : ℕ) → op_plan w x t (op_of w t (thread_of x t).body) ≡ op_plan w s t (op_of w t (thread_of s t).body)
  op_same w t = op_by w t (op_of w t (thread_of x t).body) ∙ ap (λ b. op_plan w s t (op_of w t b)) (body t)

  run_by : (w : Work) (t : ℕ) (o : Option Plan) → run_plan_of w x t o ≡ run_plan_of w s t o
  run_by w t None = op_same w t
  run_by w t (Some p) = refl

  leave_same : (c t : ℕ) → leave_plan c (cpu_of x c) t (thread_of x t).body ≡ leave_plan c (cpu_of s c) t (thread_of s t).body
  leave_same c t i = leave_plan c (cpu_alike x s h.same.bare c i) t (body t i)

  run_same : (w : Work) (c t : ℕ) → run_plan w x c t ≡ run_plan w s c t
  run_same w c t = run_by w t (leave_plan c (cpu_of x c) t (thread_of x t).body) ∙ ap (run_plan_of w s t) (leave_same c t)

  dispatch_by : (o : Option ℕ) → dispatch_plan x o ≡ dispatch_plan s o
  dispatch_by None = refl
  dispatch_by (Some t) = ap (λ p. Make (event.Dispatch (thread_id t) p)) (eff_same x s h.same t)

  close_by : (at : SetId) (o : Option ℕ) → closing_plan x at o ≡ closing_plan s at o
  close_by at None = refl
  close_by at (Some t) = ap (PlaceIt (placement.Move (thread_id t))) (eff_same x s h.same t)

  free_by : (c : ℕ) (at : Option SetId) → free_plan_of x c at ≡ free_plan_of s c at
  free_by c None = dispatch_by (best_ready x c) ∙ ap (dispatch_plan s) (best_ready_same x s h.same c)
  free_by c (Some at) = close_by at (best_queued x c) ∙ ap (closing_plan s at) (best_queued_same x s h.same c)

  cpu_by : (w : Work) (c : ℕ) (o : Option ℕ) → cpu_plan_of w x c o ≡ cpu_plan_of w s c o
  cpu_by w c None = free_by c (cpu_of x c).closing ∙ ap (λ (y : CpuState). free_plan_of s c y.closing) (cpu_alike x s h.same.bare c)
  cpu_by w c (Some t) = run_same w c t

  cpu_plan_same : (w : Work) (c : ℕ) → cpu_plan w x c ≡ cpu_plan w s c
  unfolding cpu_plan
  cpu_plan_same w c = cpu_by w c (runner x c) ∙ ap (cpu_plan_of w s c) (runner_same x s h.same c)

  pub plan_same : (w : Work) (c : CpuId) → plan w x c.0 ≡ plan w s c.0
  unfolding plan
  plan_same w c i = or_plan (first_of (duty_plan_same w c i) (first_of (nap_plan_same w c.0 i) (ageing_plan_same w c.0 i))) (cpu_plan_same w c.0 i)
