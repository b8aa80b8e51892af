-- A turn needs at most four homes: one of a duty that found nobody, and three of what the processor does then; or three of a
-- duty.
use Rattle.std.proofs.Common.{◌≡◌, ◌⊎◌, ◌≤◌, ℕ, ◌%◌, Bool, true, false, List, [], ◌∷◌, length, Option, Some, None, is_none, refl, ap, subst, sym, inl, inr, arith}
use Rattle.std.specs.Prelude.{Result, Ok, Err, ◌==◌, nat_le, if◌then◌else◌}
use Rattle.sd_types.specs.declared.numbers.ChanId.{ChanId}
use Rattle.sd_types.specs.declared.numbers.CpuId.{CpuId}
use Rattle.sd_types.specs.declared.numbers.HomeId.{HomeId}
use Rattle.sd_types.specs.declared.numbers.HomeId.TheVariants as home
use Rattle.sd_types.specs.declared.numbers.LockId.{LockId}
use Rattle.sd_types.specs.declared.numbers.SetId.{SetId}
use Rattle.sd_types.specs.declared.numbers.Side.TheVariants.{Writer, Reader}
use Rattle.sd_types.specs.declared.numbers.ThreadId.{ThreadId}
use Rattle.sd_types.specs.declared.classes.ClassParms.{ClassParms}
use Rattle.sd_types.specs.declared.events.Denied.{Denied}
use Rattle.sd_types.specs.declared.events.Duty.{Duty}
use Rattle.sd_types.specs.declared.events.Duty.TheVariants as duty
use Rattle.sd_types.specs.declared.events.Event.{Event}
use Rattle.sd_types.specs.declared.events.Event.TheVariants as event
use Rattle.sd_types.specs.declared.events.Hints.{Hints}
use Rattle.sd_types.specs.declared.events.Put.{Put}
use Rattle.sd_types.specs.declared.bodies.ThreadBody.{ThreadBody}
use Rattle.sd_rules.specs.ClassRules.{end_of}
use Rattle.sd_types.specs.declared.scripts.Op.{Op}
use Rattle.sd_types.specs.declared.scripts.Op.TheVariants as op
use Rattle.sd_types.specs.declared.works.Work.{Work}
use Rattle.sd_state.specs.declared.states.LockState.{LockState}
use Rattle.sd_state.specs.declared.states.LockState.TheVariants.{Free, Owned, ReadHeld, Passing}
use Rattle.sd_state.specs.declared.states.State.{State}
use Rattle.sd_state.specs.States.{cpu_of, thread_of, set_of, eff_of}
use Rattle.sd_state.specs.Operations.{op_of}
use Rattle.sd_machine.specs.declared.plans.Placement.TheVariants as placement
use Rattle.sd_machine.specs.declared.plans.Plan.{Plan}
use Rattle.sd_machine.specs.declared.plans.Plan.TheVariants.{Make, Place, Search}
use Rattle.sd_machine.specs.Choosing.{victim_for}
use Rattle.sd_machine.specs.Conditions.{sema_p_if, sema_p_event, sema_v_plan}
use Rattle.sd_machine.specs.Dispatching.{dispatch_plan, leave_event, must_leave, steal_event}
use Rattle.sd_machine.specs.Locking.{enter_event, grant_reader_plan, grant_writer_plan, is_eligible, owner_runs, read_event, unblock_plan, write_event, writer_priority}
use Rattle.sd_machine.specs.Changes.{cpu_put}
use Rattle.sd_machine.specs.Events.{plan_event, wish}
use Rattle.sd_machine.specs.Plans.{ageing_plan, ageing_plan_of, cpu_plan, cpu_plan_of, duty_plan, duty_plan_of, first_of, free_plan_of, nap_plan, op_plan, or_plan, plan, run_plan_of}
use Rattle.sd_machine.specs.Prioritising.{age_plan, answer_to, prio_plan}
use Rattle.sd_machine.specs.SetChanges.{closing_plan}
use Rattle.sd_machine.specs.Sleeping.{napend_plan, rouse_plan, wake_plan, woken_priority}
use Rattle.sd_machine.specs.Threads.{best_queued, best_ready, best_sleeper, best_sleeper_below, best_unbound, best_waiter, count_of, first_due, lock_of, next_to_age, priority_of, runner, thread_id}
use Rattle.sd_machine.specs.Walking.{walk_plan}
use Rattle.sd_homes.specs.Standing.{home_of}
use Rattle.sd_footprint.specs.Homes.{IsOneOf, NeedsFour, TakesFour}
use Rattle.sd_step.specs.Needed.{choice_parts, cpu_parts, later_parts, needed, next_parts, op_parts, plan_parts, read_parts, reads_parts, run_parts, turn_parts}
use Rattle.sd_step.specs.Tasks.{task_parts}
use Rattle.sd_step.specs.Touched.{after_parts}
use Rattle.sd_locks.specs.Released.{handed_parts}
use Rattle.sd_frames.proofs.CauseLemmas.{Serves}
use Rattle.sd_footprint.proofs.Bindings.{bind_cover, bound_home, unbind_cover}
use Rattle.sd_footprint.proofs.Covers.{Cover, Turn, cover_behind, cover_each, cover_join, cover_more, cover_read, made, own_home, placing, put_cover, reordered_cover, requeueing}
use Rattle.sd_footprint.proofs.Standing.{aged_stands, due_stands, queued_stands, ready_stands, runner_stands, sleeper_below_stands, sleeper_stands, unbound_stands, waiter_stands}
use Rattle.sd_store.specs.Keyless.{task_of}
use Rattle.sd_store.specs.declared.parts.Part.{Part}
use Rattle.sd_store.specs.Parts.{actor_part, chain_part, cpu_part, owner_parts, ready_parts, sleepers_part, thread_part}

-- What an event of the running thread touches at a lock, where its processor and the chain of the lock come first among the homes, and
-- beside them the real-time queue of the processor's partition.

abbrev LockCover : Work → State → CpuId → LockId → List HomeId → Event → Type 0
LockCover w s c l hs e = Cover s c (home.RealTime (cpu_of s c.0).set ∷ (home.Cpu c ∷ (home.Chain (l.0 % 64) ∷ hs))) (after_parts w s c e)

module _ (w : Work) (s : State) (c : CpuId) (t : ℕ) (runs : home_of (thread_of s t) ≡ home.Cpu c) (l : LockId) (hs : List HomeId) where
  enters : LockCover w s c l hs (event.Enter (thread_id t) l)
  enters = (inl refl, (inr (inr (inr (inl refl))), (inr (inr (inl (ap Some runs))), tt)))

  reads_it : LockCover w s c l hs (event.Read (thread_id t) l)
  reads_it = (inl refl, (inr (inr (inr (inl refl))), (inr (inr (inl (ap Some runs))), tt)))

  writes_it : LockCover w s c l hs (event.Write (thread_id t) l)
  writes_it = (inl refl, (inr (inr (inr (inl refl))), (inr (inr (inl (ap Some runs))), tt)))

  spins : LockCover w s c l hs (event.Spin (thread_id t) l)
  spins = (inl refl, (inl refl, (inr (inr (inl (ap Some runs))), (inr (inr (inl refl)), (inr (inl refl), tt)))))

  blocks : LockCover w s c l hs (event.Block (thread_id t) l)
  blocks = (inl refl, (inl refl, (inr (inr (inl refl)), (inr (inr (inr (inl refl))), (inr (inr (inl (ap Some runs))), tt)))))

  enter_cover : (x : LockState) → LockCover w s c l hs (enter_event s t l x)
  enter_cover Free = enters
  enter_cover (Owned o) = by (owner_runs s o)
    where
      by : (b : Bool) → LockCover w s c l hs (if b then event.Spin (thread_id t) l else event.Block (thread_id t) l)
      by true = spins
      by false = blocks
  enter_cover (ReadHeld n) = blocks
  enter_cover (Passing d r) = spins

  read_cover : (x : LockState) → LockCover w s c l hs (read_event s t l x)
  read_cover Free = reads_it
  read_cover (Owned o) = blocks
  read_cover (ReadHeld n) = by (is_none (best_waiter s l.0 Writer))
    where
      by : (b : Bool) → LockCover w s c l hs (if b then event.Read (thread_id t) l else event.Block (thread_id t) l)
      by true = reads_it
      by false = blocks
  read_cover (Passing d r) = spins

  write_cover : (x : LockState) → LockCover w s c l hs (write_event t l x)
  write_cover Free = writes_it
  write_cover (Owned o) = blocks
  write_cover (ReadHeld n) = blocks
  write_cover (Passing d r) = spins

-- The operation of the running thread.

module _ (w : Work) (s : State) (c : CpuId) (hints : Option Hints) (t : ℕ) (runs : home_of (thread_of s t) ≡ home.Cpu c) where
  wake_turn : (k : ChanId) (o : Option ℕ) → best_sleeper s k.0 ≡ o → Turn w s c hints 3 (cpu_part c ∷ (sleepers_part k ∷ [])) (wake_plan w s t k o)
  wake_turn k None e =
      made w s c hints 3 (home.Cpu c) (home.Cpu c ∷ (home.Sleepers (k.0 % 64) ∷ [])) (cpu_part c ∷ (sleepers_part k ∷ [])) (event.Wake (thread_id t) k None) (omega arith)
      (inr (inl refl), (inr (inr (inl refl)), tt)) (inl refl, (inr (inl (ap Some runs)), tt))
  wake_turn k (Some u) e =
      let hs : List HomeId = home.Cpu c ∷ (home.Sleepers (k.0 % 64) ∷ (home.RealTime (set_of w u) ∷ [])) in
      placing w s c hints _ hs _ (placement.Wake (thread_id t) k (thread_id u)) (woken_priority w s u) (omega arith)
      (inr (inl refl), (inr (inr (inl refl)), tt)) (inr (inl (ap Some (sleeper_stands s k u e)))) (inr (inr (inl refl)))
      (λ at. (inl refl, (inr (inr (inl (ap Some runs))), put_cover w s c hs (thread_id u) at (inr (inl (ap Some (sleeper_stands s k u e)))) (inr (inr (inl refl))))))

  sema_turn : (k : ChanId) (o : Option ℕ) → best_sleeper s k.0 ≡ o → Turn w s c hints 3 (cpu_part c ∷ (sleepers_part k ∷ [])) (sema_v_plan w s t k o)
  sema_turn k None e = record {
    homes = home.Cpu c ∷ (home.Sleepers (k.0 % 64) ∷ []);
    beside = home.Cpu c;
    few = omega arith;
    planned = (inr (inl refl), (inr (inr (inl refl)), tt));
    chosen = tt;
    touched = (inl refl, (inr (inr (inr (inl refl))), (inr (inl (ap Some runs)), tt)));
  }
  sema_turn k (Some u) e =
      let hs : List HomeId = home.Cpu c ∷ (home.Sleepers (k.0 % 64) ∷ (home.RealTime (set_of w u) ∷ [])) in
      placing w s c hints _ hs _ (placement.SemaVWake (thread_id t) k (thread_id u)) (woken_priority w s u) (omega arith)
      (inr (inl refl), (inr (inr (inl refl)), tt)) (inr (inl (ap Some (sleeper_stands s k u e)))) (inr (inr (inl refl)))
      (λ at. (inl refl, (inr (inr (inl (ap Some runs))), put_cover w s c hs (thread_id u) at (inr (inl (ap Some (sleeper_stands s k u e)))) (inr (inr (inl refl))))))

  sema_p_turn : (k : ChanId) → Turn w s c hints 3 (cpu_part c ∷ (sleepers_part k ∷ [])) (Make (sema_p_event s t k))
  sema_p_turn k =
      made w s c hints 3 (home.Cpu c) (home.Cpu c ∷ (home.Sleepers (k.0 % 64) ∷ [])) (cpu_part c ∷ (sleepers_part k ∷ [])) (sema_p_event s t k) (omega arith)
      (inr (inl refl), (inr (inr (inl refl)), tt)) (by (nat_le 1 (count_of s k.0)))
    where
      by : (b : Bool) → Cover s c (home.Cpu c ∷ (home.Cpu c ∷ (home.Sleepers (k.0 % 64) ∷ []))) (after_parts w s c (sema_p_if b t k))
      by true = (inl refl, (inr (inr (inr (inl refl))), (inr (inl (ap Some runs)), tt)))
      by false = (inl refl, (inl refl, (inr (inl refl), (inr (inr (inr (inl refl))), (inr (inl (ap Some runs)), tt)))))

  prio_turn : (u : ThreadId) (answer : Result ClassParms Denied) → Turn w s c hints 3 (cpu_part c ∷ (thread_part u ∷ [])) (prio_plan w s t u answer)
  prio_turn u (Err denied) =
      made w s c hints 3 (home.Cpu c) (home.Cpu c ∷ (home_of (thread_of s u.0) ∷ [])) (cpu_part c ∷ (thread_part u ∷ [])) _ (omega arith) (inr (inl refl), (inr (inr (inl refl)), tt))
      (inl refl, (inr (inl (ap Some runs)), tt))
  prio_turn u (Ok parms) =
      let hs : List HomeId = home.Cpu c ∷ (home_of (thread_of s u.0) ∷ (home.RealTime (set_of w u.0) ∷ [])) in
      requeueing w s c hints _ hs _ _ _ (placement.Prio (thread_id t) u _) _ (thread_of s u.0).place (omega arith)
      (inr (inl refl), (inr (inr (inl refl)), tt)) (inr (inl refl)) (inr (inr (inl refl))) (λ at. refl)
      (λ at. (inl refl, (inr (inr (inl (ap Some runs))), (inl refl, (inr (inr (inr (inl refl))), reordered_cover w s c hs u at (thread_of s u.0).place refl (inr (inl refl)) (inr (inr (inl refl))))))))

  -- an event that looks at nothing but its processor
  own : (b : HomeId) (e : Event) → Cover s c (b ∷ (home.Cpu c ∷ [])) (after_parts w s c e) → Turn w s c hints 3 (cpu_part c ∷ []) (Make e)
  own b e touched = made w s c hints 3 b (home.Cpu c ∷ []) (cpu_part c ∷ []) e (omega arith) (inr (inl refl), tt) touched

  own_with : (b h : HomeId) (e : Event) → Cover s c (b ∷ (home.Cpu c ∷ (h ∷ []))) (after_parts w s c e) → Turn w s c hints 3 (cpu_part c ∷ []) (Make e)
  own_with b h e touched = made w s c hints 3 b (home.Cpu c ∷ (h ∷ [])) (cpu_part c ∷ []) e (omega arith) (inr (inl refl), tt) touched

  -- with the chain of a lock, and with its owner
  chain_turn : (l : LockId) (e : Event) → ((hs : List HomeId) → LockCover w s c l hs e) → Turn w s c hints 3 (cpu_part c ∷ (chain_part l ∷ [])) (Make e)
  chain_turn l e touched =
      made w s c hints 3 (home.RealTime (cpu_of s c.0).set) (home.Cpu c ∷ (home.Chain (l.0 % 64) ∷ [])) (cpu_part c ∷ (chain_part l ∷ [])) e (omega arith)
      (inr (inl refl), (inr (inr (inl refl)), tt)) (touched [])

  owner_turn : (l : LockId) (x : LockState) (e : Event) → ((hs : List HomeId) → LockCover w s c l hs e) → Turn w s c hints 3 (cpu_part c ∷ (chain_part l ∷ owner_parts x)) (Make e)
  owner_turn l Free e touched = chain_turn l e touched
  owner_turn l (Owned o) e touched =
      made w s c hints 3 (home.RealTime (cpu_of s c.0).set) (home.Cpu c ∷ (home.Chain (l.0 % 64) ∷ (home_of (thread_of s o.0) ∷ []))) (cpu_part c ∷ (chain_part l ∷ (thread_part o ∷ []))) e (omega arith)
      (inr (inl refl), (inr (inr (inl refl)), (inr (inr (inr (inl refl))), tt))) (touched (home_of (thread_of s o.0) ∷ []))
  owner_turn l (ReadHeld n) e touched = chain_turn l e touched
  owner_turn l (Passing d r) e touched = chain_turn l e touched

  bind_turn : (u : ThreadId) (d : Option CpuId) → Turn w s c hints 3 (cpu_part c ∷ op_parts s (Some (op.Pbind u d))) (op_plan w s t (Some (op.Pbind u d)))
  unfolding op_plan
  bind_turn u None =
      made w s c hints 3 (bound_home c (thread_of s u.0).body.bound) (home.Cpu c ∷ (home_of (thread_of s u.0) ∷ (home.RealTime (set_of w u.0) ∷ []))) (cpu_part c ∷ (thread_part u ∷ [])) _ (omega arith)
      (inr (inl refl), (inr (inr (inl refl)), tt)) (inl refl, (inr (inr (inl (ap Some runs))), unbind_cover w s c t u))
  bind_turn u (Some d) =
      made w s c hints 3 (home.Cpu c) (home.Cpu c ∷ (home_of (thread_of s u.0) ∷ (home.Cpu d ∷ []))) (cpu_part c ∷ (thread_part u ∷ (cpu_part d ∷ []))) _ (omega arith)
      (inr (inl refl), (inr (inr (inl refl)), (inr (inr (inr (inl refl))), tt))) (inl refl, (inr (inl (ap Some runs)), bind_cover w s c t u d))

  op_turn : (o : Option Op) → Turn w s c hints 3 (cpu_part c ∷ op_parts s o) (op_plan w s t o)
  unfolding op_plan
  op_turn None = own (home.Cpu c) (event.Done (thread_id t)) (inl refl, (inl refl, (inr (inl refl), tt)))
  op_turn (Some (op.Run n)) =
      own (home.RealTime (cpu_of s c.0).set) (event.Tick (thread_id t)) (inl refl, (inl refl, (inr (inr (inl (ap Some runs))), (inr (inr (inl refl)), (inr (inl refl), tt)))))
  op_turn (Some op.Yield) = own (home.RealTime (set_of w t)) (event.Yield (thread_id t)) (inl refl, (inr (inr (inl (ap Some runs))), (inl refl, (inr (inr (inl refl)), (inr (inl refl), tt)))))
  op_turn (Some (op.Nap n)) = own (home.Cpu c) (event.Nap (thread_id t)) (inl refl, (inl refl, (inr (inl refl), (inr (inl (ap Some runs)), tt))))
  op_turn (Some (op.Sleep k)) =
      own (home.Sleepers (k.0 % 64)) (event.Sleep (thread_id t) k) (inl refl, (inl refl, (inr (inr (inl refl)), (inr (inl refl), (inr (inr (inl (ap Some runs))), tt)))))
  op_turn (Some (op.Wake k)) = wake_turn k (best_sleeper s k.0) refl
  op_turn (Some (op.WakeAll k)) =
      own (home.Sleepers (k.0 % 64)) (event.Wakeall (thread_id t) k) (inl refl, (inl refl, (inr (inl refl), (inr (inr (inl (ap Some runs))), tt))))
  op_turn (Some (op.Enter l)) = owner_turn l (lock_of s l.0) (enter_event s t l (lock_of s l.0)) (λ hs. enter_cover w s c t runs l hs (lock_of s l.0))
  op_turn (Some (op.Read l)) = chain_turn l (read_event s t l (lock_of s l.0)) (λ hs. read_cover w s c t runs l hs (lock_of s l.0))
  op_turn (Some (op.Write l)) = chain_turn l (write_event t l (lock_of s l.0)) (λ hs. write_cover w s c t runs l hs (lock_of s l.0))
  op_turn (Some (op.Exit l)) =
      own_with (home.RealTime (cpu_of s c.0).set) (home.Chain (l.0 % 64)) (event.Exit (thread_id t) l)
      (inl refl, (inl refl, (inr (inr (inr (inl refl))), (inr (inr (inl (ap Some runs))), (inr (inr (inl refl)), (inr (inl refl), tt))))))
  op_turn (Some (op.Prio u r)) = prio_turn u (answer_to w s t u.0 r)
  op_turn (Some (op.CvWait k l)) =
      own_with (home.Sleepers (k.0 % 64)) (home.Chain (l.0 % 64)) (event.CvWait (thread_id t) k l)
      (inl refl, (inl refl, (inr (inr (inr (inl refl))), (inr (inr (inl refl)), (inr (inl refl), (inr (inr (inl (ap Some runs))), tt))))))
  op_turn (Some (op.SemaP k)) = sema_p_turn k
  op_turn (Some (op.SemaV k)) = sema_turn k (best_sleeper s k.0) refl
  op_turn (Some (op.Assign d to)) =
      made w s c hints 3 (home.Cpu c) (home.Cpu c ∷ (home.Cpu d ∷ (home.RealTime (cpu_of s d.0).set ∷ []))) (cpu_part c ∷ ready_parts s d) _ (omega arith)
      (inr (inl refl), (inr (inr (inl refl)), (inr (inr (inr (inl refl))), tt)))
      (inl refl, (inr (inl (ap Some runs)), (inr (inr (inr (inl refl))), (inr (inr (inr (inr (inl refl)))), tt))))
  op_turn (Some (op.Pbind u d)) = bind_turn u d

  -- What a processor does where nothing comes before.

  -- a thread that leaves looks at nothing more
  abbrev leave_home : Option CpuId → HomeId
  leave_home None = home.RealTime (set_of w t)
  leave_home (Some d) = if d.0 == c.0 then home.RealTime (set_of w t) else home.Cpu d

  leave_cover : (hs : List HomeId) (b : ThreadBody) (bound : Option CpuId) → IsOneOf (Some (home.Cpu c)) hs → Cover s c (leave_home bound ∷ hs) (after_parts w s c (leave_event c.0 t b bound))
  leave_cover hs b None own = (inl refl, (inr (inr (subst (λ (x : HomeId). IsOneOf (Some x) hs) (sym runs) own)), (inl refl, (inr (inr own), (inr (inl refl), tt)))))
  leave_cover hs b (Some d) own = by (d.0 == c.0)
    where
      by : (x : Bool) → Cover s c ((if x then home.RealTime (set_of w t) else home.Cpu d) ∷ hs) (after_parts w s c (if x then event.Preempt (thread_id t) (end_of b.back) else event.Away (thread_id t) d))
      by true = (inl refl, (inr (inr (subst (λ (x : HomeId). IsOneOf (Some x) hs) (sym runs) own)), (inl refl, (inr (inr own), (inr (inl refl), tt)))))
      by false = (inl refl, (inl refl, (inr (inr (subst (λ (x : HomeId). IsOneOf (Some x) hs) (sym runs) own)), (inr (inr own), (inr (inl refl), tt)))))

  leaving : (leaves : Bool) → Turn w s c hints 3 (cpu_part c ∷ op_parts s (op_of w t (thread_of s t).body))
      (run_plan_of w s t (if leaves then Some (Make (leave_event c.0 t (thread_of s t).body (thread_of s t).body.bound)) else None))
  leaving true =
      let turn = op_turn (op_of w t (thread_of s t).body) in
      made w s c hints 3 (leave_home (thread_of s t).body.bound) turn.homes _ _ turn.few turn.planned
      (leave_cover turn.homes (thread_of s t).body (thread_of s t).body.bound (own_home s c c turn.homes turn.planned.0))
  leaving false = op_turn (op_of w t (thread_of s t).body)

searching : (w : Work) (s : State) (c : CpuId) (hints : Option Hints) (v : Option CpuId) → victim_for s c.0 hints ≡ v → Turn w s c hints 3 (ready_parts s c) Search
searching w s c hints None e = record {
  homes = home.Cpu c ∷ (home.RealTime (cpu_of s c.0).set ∷ []);
  beside = home.Cpu c;
  few = omega arith;
  planned = (inr (inl refl), (inr (inr (inl refl)), tt));
  chosen = rw e (inr (inl refl), (inr (inr (inl refl)), tt));
  touched = rw e (inl refl, (inl refl, tt));
}
searching w s c hints (Some v) e = record {
  homes = home.Cpu c ∷ (home.RealTime (cpu_of s c.0).set ∷ (home.Cpu v ∷ []));
  beside = home.Cpu c;
  few = omega arith;
  planned = (inr (inl refl), (inr (inr (inl refl)), tt));
  chosen = rw e (inr (inl refl), (inr (inr (inl refl)), (inr (inr (inr (inl refl))), tt)));
  touched = rw e (by (best_unbound s v.0) refl);
}
  where
    by : (o : Option ℕ) → best_unbound s v.0 ≡ o → Cover s c (home.Cpu c ∷ (home.Cpu c ∷ (home.RealTime (cpu_of s c.0).set ∷ (home.Cpu v ∷ [])))) (after_parts w s c (steal_event s v o))
    by None none = (inl refl, (inl refl, tt))
    by (Some t) is = (inl refl, (inr (inr (inr (inr (inl (ap Some (unbound_stands s v t is)))))), (inr (inl refl), tt)))

dispatch_turn : (w : Work) (s : State) (c : CpuId) (hints : Option Hints) (o : Option ℕ) → best_ready s c.0 ≡ o → Turn w s c hints 3 (ready_parts s c) (dispatch_plan s o)
dispatch_turn w s c hints None e = searching w s c hints (victim_for s c.0 hints) refl
dispatch_turn w s c hints (Some t) e =
    made w s c hints 3 (home.Cpu c) (home.Cpu c ∷ (home.RealTime (cpu_of s c.0).set ∷ [])) (ready_parts s c) _ (omega arith) (inr (inl refl), (inr (inr (inl refl)), tt))
    (inl refl, (inr (by (ready_stands s c t e)), (inr (inl refl), tt)))
  where
    by : (home_of (thread_of s t) ≡ home.Cpu c) ⊎ (home_of (thread_of s t) ≡ home.RealTime (cpu_of s c.0).set)
        → IsOneOf (Some (home_of (thread_of s t))) (home.Cpu c ∷ (home.Cpu c ∷ (home.RealTime (cpu_of s c.0).set ∷ [])))
    by (inl own) = inl (ap Some own)
    by (inr real) = inr (inr (inl (ap Some real)))

closing_turn : (w : Work) (s : State) (c : CpuId) (hints : Option Hints) (to : SetId) (o : Option ℕ) → best_queued s c.0 ≡ o → Turn w s c hints 3 (ready_parts s c) (closing_plan s to o)
closing_turn w s c hints to None e =
    made w s c hints 3 (home.RealTime to) (home.Cpu c ∷ (home.RealTime (cpu_of s c.0).set ∷ [])) (ready_parts s c) (event.Joined to) (omega arith) (inr (inl refl), (inr (inr (inl refl)), tt))
    (inl refl, (inr (inr (inl refl)), (inr (inl refl), tt)))
closing_turn w s c hints to (Some t) e =
    let hs : List HomeId = home.Cpu c ∷ (home.RealTime (cpu_of s c.0).set ∷ (home.RealTime (set_of w t) ∷ [])) in
    placing w s c hints _ hs _ (placement.Move (thread_id t)) (eff_of s t) (omega arith)
    (inr (inl refl), (inr (inr (inl refl)), tt)) (inl (ap Some (queued_stands s c t e))) (inr (inr (inl refl)))
    (λ at. (inl refl, put_cover w s c hs (thread_id t) at (inl (ap Some (queued_stands s c t e))) (inr (inr (inl refl)))))

free_turn : (w : Work) (s : State) (c : CpuId) (hints : Option Hints) (closing : Option SetId) → Turn w s c hints 3 (ready_parts s c) (free_plan_of s c.0 closing)
free_turn w s c hints None = dispatch_turn w s c hints (best_ready s c.0) refl
free_turn w s c hints (Some to) = closing_turn w s c hints to (best_queued s c.0) refl

cpu_turn_of : (w : Work) (s : State) (c : CpuId) (hints : Option Hints) (o : Option ℕ) → runner s c.0 ≡ o → Turn w s c hints 3 (cpu_part c ∷ run_parts w s c o) (cpu_plan_of w s c.0 o)
cpu_turn_of w s c hints None e = free_turn w s c hints (cpu_of s c.0).closing
cpu_turn_of w s c hints (Some t) e = leaving w s c hints t (runner_stands s c t e) (must_leave (cpu_of s c.0) (thread_of s t).body)

cpu_turn : (w : Work) (s : State) (c : CpuId) (hints : Option Hints) → Turn w s c hints 3 (cpu_parts w s c) (cpu_plan w s c.0)
unfolding cpu_plan
cpu_turn w s c hints = cpu_turn_of w s c hints (runner s c.0) refl

-- Naps and ageing.

-- a plan of an event that touches what its own processor has
abbrev IsOwn : Work → State → CpuId → Option Plan → Type 0
IsOwn w s c None = Unit {0}
IsOwn w s c (Some (Make e)) = Cover s c (home.Cpu c ∷ (home.Cpu c ∷ [])) (after_parts w s c e)
IsOwn w s c (Some _) = ⊥

age_own : (w : Work) (s : State) (c : CpuId) (u : ℕ) (o : Option ℕ) → next_to_age s c.0 u ≡ o → IsOwn w s c (age_plan w s o)
age_own w s c u None e = tt
age_own w s c u (Some t) e = (inl refl, (inr (inl (ap Some (aged_stands s c u t e))), (inr (inl refl), (inl refl, tt))))

ageing_own : (w : Work) (s : State) (c : CpuId) (d : Duty) → IsOwn w s c (ageing_plan_of w s c.0 d)
ageing_own w s c (duty.Age u) = age_own w s c u.0 (next_to_age s c.0 u.0) refl
ageing_own w s c _ = tt

aged_turn : (w : Work) (s : State) (c : CpuId) (hints : Option Hints) (ageing : Option Plan) → IsOwn w s c ageing → Turn w s c hints 3 (later_parts w s c None ageing) (or_plan ageing (cpu_plan w s c.0))
aged_turn w s c hints None is = cpu_turn w s c hints
aged_turn w s c hints (Some (Make e)) is = made w s c hints 3 (home.Cpu c) (home.Cpu c ∷ []) (cpu_part c ∷ []) e (omega arith) (inr (inl refl), tt) is
aged_turn w s c hints (Some (Place thread p)) is = absurd is
aged_turn w s c hints (Some Search) is = absurd is

nap_turn : (w : Work) (s : State) (c : CpuId) (hints : Option Hints) (o : Option ℕ) (ageing : Option Plan) → first_due s c.0 ≡ o → IsOwn w s c ageing
    → Turn w s c hints 3 (later_parts w s c None (first_of (napend_plan w s o) ageing)) (or_plan (first_of (napend_plan w s o) ageing) (cpu_plan w s c.0))
nap_turn w s c hints None ageing e is = aged_turn w s c hints ageing is
nap_turn w s c hints (Some t) ageing e is =
    let hs : List HomeId = home.Cpu c ∷ (home.RealTime (set_of w t) ∷ []) in
    placing w s c hints _ hs _ (placement.Napend (thread_id t)) (woken_priority w s t) (omega arith)
    (inr (inl refl), tt) (inl (ap Some (due_stands s c t e))) (inr (inl refl))
    (λ at. (inl refl, put_cover w s c hs (thread_id t) at (inl (ap Some (due_stands s c t e))) (inr (inl refl))))

abbrev later_plan : Work → State → CpuId → Option Plan
later_plan w s c = first_of (nap_plan w s c.0) (ageing_plan w s c.0)

later_turn : (w : Work) (s : State) (c : CpuId) (hints : Option Hints) → Turn w s c hints 3 (later_parts w s c None (later_plan w s c)) (or_plan (later_plan w s c) (cpu_plan w s c.0))
unfolding nap_plan ageing_plan
later_turn w s c hints = nap_turn w s c hints (first_due s c.0) (ageing_plan_of w s c.0 (cpu_of s c.0).duty) refl (ageing_own w s c (cpu_of s c.0).duty)

-- The duty, with what comes after where it gives no plan. Where a duty to wake or to hand over finds a waiter, three homes do, and with
-- the one beside them four.

record DutyTurn (w : Work) (s : State) (c : CpuId) (hints : Option Hints) (d : Duty) (given : Option Plan) : Type 0 where
  turn : Turn w s c hints 4 (actor_part c ∷ task_parts s (task_of d) (later_parts w s c given (later_plan w s c))) (or_plan (first_of given (later_plan w s c)) (cpu_plan w s c.0))
  spare : Serves s d → length turn.homes ≤ 3

abbrev widened : (w : Work) (s : State) (c : CpuId) (hints : Option Hints) (parts : List Part) (plan : Plan) → Turn w s c hints 3 parts plan → Turn w s c hints 4 parts plan
widened w s c hints parts plan turn = record {
  homes = turn.homes;
  beside = turn.beside;
  few = wider (length turn.homes) turn.few;
  planned = turn.planned;
  chosen = turn.chosen;
  touched = turn.touched;
}
  where
    wider : (n : ℕ) → n ≤ 3 → n ≤ 4
    wider n most = omega (arith, most)

idle_duty : (w : Work) (s : State) (c : CpuId) (hints : Option Hints)
    → Turn w s c hints 3 (actor_part c ∷ later_parts w s c None (later_plan w s c)) (or_plan (later_plan w s c) (cpu_plan w s c.0))
idle_duty w s c hints =
    let turn = later_turn w s c hints in
    record { homes = turn.homes; beside = turn.beside; few = turn.few; planned = (inl refl, turn.planned); chosen = turn.chosen; touched = turn.touched }

-- a duty at a lock for which nobody waits
empty_duty : (w : Work) (s : State) (c : CpuId) (hints : Option Hints) (l : LockId)
    → Turn w s c hints 4 (actor_part c ∷ (chain_part l ∷ later_parts w s c None (later_plan w s c))) (or_plan (later_plan w s c) (cpu_plan w s c.0))
empty_duty w s c hints l =
    let turn = later_turn w s c hints in
    let most = turn.few in
    record {
      homes = home.Chain (l.0 % 64) ∷ turn.homes;
      beside = turn.beside;
      few = omega (arith, most);
      planned = (inl refl, (inr (inl refl), cover_more s c (home.Chain (l.0 % 64)) turn.homes _ turn.planned));
      chosen = cover_more s c (home.Chain (l.0 % 64)) turn.homes _ turn.chosen;
      touched = cover_behind s c turn.beside (home.Chain (l.0 % 64)) turn.homes (after_parts w s c (plan_event w s c.0 hints (or_plan (later_plan w s c) (cpu_plan w s c.0)))) turn.touched;
    }

walk_duty : (w : Work) (s : State) (c : CpuId) (hints : Option Hints) (l : LockId) (x : LockState) → Turn w s c hints 3 (actor_part c ∷ (chain_part l ∷ owner_parts x)) (walk_plan s l x)
walk_duty w s c hints l (Owned o) =
    let hs : List HomeId = home.Chain (l.0 % 64) ∷ (home_of (thread_of s o.0) ∷ (home.RealTime (set_of w o.0) ∷ [])) in
    requeueing w s c hints _ hs _ _ _ (placement.Will l o _) _ (thread_of s o.0).place (omega arith)
    (inl refl, (inr (inl refl), (inr (inr (inl refl)), tt))) (inr (inl refl)) (inr (inr (inl refl))) (λ at. refl)
    (λ at. (inl refl, (inl refl, (inr (inr (inl refl)), reordered_cover w s c hs o at (thread_of s o.0).place refl (inr (inl refl)) (inr (inr (inl refl)))))))
walk_duty w s c hints l _ = made w s c hints 3 (home.Cpu c) (home.Chain (l.0 % 64) ∷ []) _ (event.End l) (omega arith) (inl refl, (inr (inl refl), tt)) (inl refl, (inl refl, tt))

-- what the processor touches that hands a lock to one of its waiters
handed_cover : (w : Work) (s : State) (c : CpuId) (l : LockId) (u : ℕ) (at : Put) → home_of (thread_of s u) ≡ home.Chain (l.0 % 64)
    → Cover s c (home.Cpu (cpu_put at) ∷ (home.Chain (l.0 % 64) ∷ (home.RealTime (set_of w u) ∷ []))) (actor_part c ∷ handed_parts w c l (thread_id u) at)
handed_cover w s c l u at stands =
    (inl refl, (inl refl, (inr (inr (inl refl)), put_cover w s c (home.Chain (l.0 % 64) ∷ (home.RealTime (set_of w u) ∷ [])) (thread_id u) at (inl (ap Some stands)) (inr (inl refl)))))

mutex_duty : (w : Work) (s : State) (c : CpuId) (hints : Option Hints) (l : LockId) (o : Option ℕ) → best_waiter s l.0 Writer ≡ o → DutyTurn w s c hints (duty.WakeMutex l) (unblock_plan w s l o)
mutex_duty w s c hints l None e = record { turn = empty_duty w s c hints l; spare = λ serves. absurd (serves e) }
mutex_duty w s c hints l (Some u) e =
    let stands = waiter_stands s l Writer u e in
    let turn : Turn w s c hints 3 (actor_part c ∷ (chain_part l ∷ [])) (Place (placement.Unblock l (thread_id u)) (woken_priority w s u)) =
    placing w s c hints 3 (home.Chain (l.0 % 64) ∷ (home.RealTime (set_of w u) ∷ [])) (actor_part c ∷ (chain_part l ∷ [])) (placement.Unblock l (thread_id u)) (woken_priority w s u) (omega arith)
    (inl refl, (inr (inl refl), tt)) (inl (ap Some stands)) (inr (inl refl)) (λ at. handed_cover w s c l u at stands) in
    record { turn = widened w s c hints _ _ turn; spare = λ serves. turn.few }

writer_duty : (w : Work) (s : State) (c : CpuId) (hints : Option Hints) (l : LockId) (o : Option ℕ) → best_waiter s l.0 Writer ≡ o → DutyTurn w s c hints (duty.GrantWriter l) (grant_writer_plan w s l o)
writer_duty w s c hints l None e = record { turn = empty_duty w s c hints l; spare = λ serves. absurd (serves e) }
writer_duty w s c hints l (Some u) e =
    let stands = waiter_stands s l Writer u e in
    let turn : Turn w s c hints 3 (actor_part c ∷ (chain_part l ∷ [])) (Place (placement.Grant l (thread_id u)) (writer_priority w s l u)) =
    placing w s c hints 3 (home.Chain (l.0 % 64) ∷ (home.RealTime (set_of w u) ∷ [])) (actor_part c ∷ (chain_part l ∷ [])) (placement.Grant l (thread_id u)) (writer_priority w s l u) (omega arith)
    (inl refl, (inr (inl refl), tt)) (inl (ap Some stands)) (inr (inl refl)) (λ at. handed_cover w s c l u at stands) in
    record { turn = widened w s c hints _ _ turn; spare = λ serves. turn.few }

readers_duty : (w : Work) (s : State) (c : CpuId) (hints : Option Hints) (l : LockId) (o : Option ℕ) → best_waiter s l.0 Reader ≡ o
    → Turn w s c hints 3 (actor_part c ∷ (chain_part l ∷ [])) (grant_reader_plan w s l o)
readers_duty w s c hints l None e =
    made w s c hints 3 (home.Cpu c) (home.Chain (l.0 % 64) ∷ []) _ (event.Passed l) (omega arith) (inl refl, (inr (inl refl), tt)) (inl refl, (inl refl, (inr (inr (inl refl)), tt)))
readers_duty w s c hints l (Some u) e = by (is_eligible (priority_of s (Some u)) (priority_of s (best_waiter s l.0 Writer)))
  where
    by : (b : Bool) → Turn w s c hints 3 (actor_part c ∷ (chain_part l ∷ [])) (if b then Place (placement.Grant l (thread_id u)) (woken_priority w s u) else Make (event.Passed l))
    by true =
        let hs : List HomeId = home.Chain (l.0 % 64) ∷ (home.RealTime (set_of w u) ∷ []) in
        placing w s c hints _ hs _ (placement.Grant l (thread_id u)) (woken_priority w s u) (omega arith)
        (inl refl, (inr (inl refl), tt)) (inl (ap Some (waiter_stands s l Reader u e))) (inr (inl refl)) (λ at. handed_cover w s c l u at (waiter_stands s l Reader u e))
    by false = made w s c hints 3 (home.Cpu c) (home.Chain (l.0 % 64) ∷ []) _ (event.Passed l) (omega arith) (inl refl, (inr (inl refl), tt)) (inl refl, (inl refl, (inr (inr (inl refl)), tt)))

rouse_duty : (w : Work) (s : State) (c : CpuId) (hints : Option Hints) (k : ChanId) (o : Option ℕ) → ((u : ℕ) → o ≡ Some u → home_of (thread_of s u) ≡ home.Sleepers (k.0 % 64))
    → Turn w s c hints 3 (actor_part c ∷ (sleepers_part k ∷ [])) (rouse_plan w s k o)
rouse_duty w s c hints k None stands =
    made w s c hints 3 (home.Cpu c) (home.Sleepers (k.0 % 64) ∷ []) _ (event.Rouse k None) (omega arith) (inl refl, (inr (inl refl), tt)) (inl refl, (inl refl, (inr (inr (inl refl)), tt)))
rouse_duty w s c hints k (Some u) stands =
    let hs : List HomeId = home.Sleepers (k.0 % 64) ∷ (home.RealTime (set_of w u) ∷ []) in
    placing w s c hints _ hs _ (placement.Rouse k (thread_id u)) (woken_priority w s u) (omega arith)
    (inl refl, (inr (inl refl), tt)) (inl (ap Some (stands u refl))) (inr (inl refl))
    (λ at. (inl refl, (inl refl, (inr (inr (inl refl)), put_cover w s c hs (thread_id u) at (inl (ap Some (stands u refl))) (inr (inl refl))))))

duty_turn : (w : Work) (s : State) (c : CpuId) (hints : Option Hints) (d : Duty) → DutyTurn w s c hints d (duty_plan_of w s d)
duty_turn w s c hints duty.Nothing = let turn = idle_duty w s c hints in record { turn = widened w s c hints _ _ turn; spare = λ serves. turn.few }
duty_turn w s c hints (duty.Walk l seek key) = let turn = walk_duty w s c hints l (lock_of s l.0) in record { turn = widened w s c hints _ _ turn; spare = λ serves. turn.few }
duty_turn w s c hints (duty.WakeMutex l) = mutex_duty w s c hints l (best_waiter s l.0 Writer) refl
duty_turn w s c hints (duty.GrantWriter l) = writer_duty w s c hints l (best_waiter s l.0 Writer) refl
duty_turn w s c hints (duty.GrantReaders l) = let turn = readers_duty w s c hints l (best_waiter s l.0 Reader) refl in record { turn = widened w s c hints _ _ turn; spare = λ serves. turn.few }
duty_turn w s c hints (duty.Rouse k below) =
    let turn = rouse_duty w s c hints k (best_sleeper_below s k.0 below) (λ u e. sleeper_below_stands s k below u e) in
    record { turn = widened w s c hints _ _ turn; spare = λ serves. turn.few }
duty_turn w s c hints (duty.Age u) = let turn = idle_duty w s c hints in record { turn = widened w s c hints _ _ turn; spare = λ serves. turn.few }

-- the turn of a processor by its own duty
record Whole (w : Work) (s : State) (c : CpuId) (hints : Option Hints) : Type 0 where
  turn : Turn w s c hints 4 (plan_parts w s c) (plan w s c.0)
  spare : Serves s (cpu_of s c.0).duty → length turn.homes ≤ 3

whole : (w : Work) (s : State) (c : CpuId) (hints : Option Hints) → Whole w s c hints
unfolding duty_plan plan
whole w s c hints = let d = duty_turn w s c hints (cpu_of s c.0).duty in record { turn = d.turn; spare = d.spare }

-- the homes of a turn, and any that hold them too
abbrev needs_in : (w : Work) (s : State) (c : CpuId) (hints : Option Hints) (hs : List HomeId) → length hs ≤ 4 → Cover s c hs (plan_parts w s c) → Cover s c hs (choice_parts w s c hints (plan w s c.0))
    → NeedsFour w s c hints
needs_in w s c hints hs few planned chosen =
    let read = cover_read w s c hints hs (plan w s c.0) chosen in
    let both = cover_join s c hs (read_parts w s c (plan w s c.0)) (choice_parts w s c hints (plan w s c.0)) read chosen in
    record {
      homes = hs;
      few = few;
      reading = cover_each s c hs (reads_parts w s c) (cover_join s c hs (plan_parts w s c) (read_parts w s c (plan w s c.0)) planned read);
      wishing = cover_each s c hs (needed w s c hints) (cover_join s c hs (plan_parts w s c) (choice_parts w s c hints (plan w s c.0)) planned chosen);
      making = cover_each s c hs (next_parts w s c hints) (cover_join s c hs (plan_parts w s c) (turn_parts w s c hints (plan w s c.0)) planned both);
    }

pub needs_four : (w : Work) (s : State) (c : CpuId) (hints : Option Hints) → NeedsFour w s c hints
needs_four w s c hints = let turn = (whole w s c hints).turn in needs_in w s c hints turn.homes turn.few turn.planned turn.chosen

-- with what its event touches, where its duty finds whom it serves
pub takes_four : (w : Work) (s : State) (c : CpuId) (hints : Option Hints) → Serves s (cpu_of s c.0).duty → TakesFour w s c hints
unfolding wish
takes_four w s c hints serves =
    let all = whole w s c hints in
    let turn = all.turn in
    let most = all.spare serves in
    let homes : List HomeId = turn.beside ∷ turn.homes in
    record {
      needs = needs_in w s c hints homes (omega (arith, most)) (cover_more s c turn.beside turn.homes (plan_parts w s c) turn.planned)
          (cover_more s c turn.beside turn.homes (choice_parts w s c hints (plan w s c.0)) turn.chosen);
      touching = cover_each s c homes (after_parts w s c (plan_event w s c.0 hints (plan w s c.0))) turn.touched;
    }
