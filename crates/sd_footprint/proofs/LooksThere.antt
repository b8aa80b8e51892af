-- What a turn looks at is there: the operations of scripts and the duties of processors name what is there, and the threads that
-- searches find are there.
use Rattle.std.proofs.Common.{◌≡◌, ℕ, ◌<◌, Bool, true, false, ◌||◌, List, [], ◌∷◌, length, Option, Some, None, refl, arith}
use Rattle.std.proofs.lemmas.Bool.{or_left, or_right}
use Rattle.std.specs.Prelude.{IfSome, Result, Ok, Err, ◌==◌, filter, not, nat_lt, slice_get, if◌then◌else◌}
use Rattle.std.proofs.lemmas.Bool.Decides.{nat_tests}
use Rattle.sd_basics.proofs.Truths.{and_left}
use Rattle.sd_types.specs.declared.bodies.ThreadBody.{ThreadBody}
use Rattle.sd_types.specs.declared.classes.ClassParms.{ClassParms}
use Rattle.sd_types.specs.declared.events.Denied.{Denied}
use Rattle.sd_types.specs.declared.events.Duty.{Duty}
use Rattle.sd_types.specs.declared.events.Duty.TheVariants as duty
use Rattle.sd_types.specs.declared.events.Event.{Event}
use Rattle.sd_types.specs.declared.events.Event.TheVariants as event
use Rattle.sd_types.specs.declared.events.Hints.{Hints}
use Rattle.sd_types.specs.declared.events.Put.{Put}
use Rattle.sd_types.specs.declared.numbers.ChanId.{ChanId}
use Rattle.sd_types.specs.declared.numbers.CpuId.{CpuId}
use Rattle.sd_types.specs.declared.numbers.LockId.{LockId}
use Rattle.sd_types.specs.declared.numbers.SetId.{SetId}
use Rattle.sd_types.specs.declared.numbers.Side.TheVariants.{Writer, Reader}
use Rattle.sd_types.specs.declared.numbers.ThreadId.{ThreadId}
use Rattle.sd_types.specs.declared.scripts.Op.{Op}
use Rattle.sd_types.specs.declared.scripts.Op.TheVariants as op
use Rattle.sd_types.specs.declared.scripts.Request.{Request}
use Rattle.sd_types.specs.declared.works.Work.{Work}
use Rattle.sd_types.specs.Works.{bound_fits, op_names, request_fits}
use Rattle.sd_rules.specs.ChoiceFunctions.{greatest_hint, least_number, victim_of, with_hint}
use Rattle.sd_state.specs.declared.states.LockState.{LockState}
use Rattle.sd_state.specs.declared.states.LockState.TheVariants.{Owned}
use Rattle.sd_state.specs.declared.states.State.{State}
use Rattle.sd_state.specs.Operations.{op_of, script_of}
use Rattle.sd_state.specs.States.{cpu_of, thread_of}
use Rattle.sd_machine.specs.declared.plans.Placement.{Placement}
use Rattle.sd_machine.specs.declared.plans.Placement.TheVariants as placement
use Rattle.sd_machine.specs.declared.plans.Plan.{Plan}
use Rattle.sd_machine.specs.declared.plans.Plan.TheVariants.{Make, Place, Search}
use Rattle.sd_machine.specs.declared.plans.Requeue.{Requeue}
use Rattle.sd_machine.specs.declared.plans.Requeue.TheVariants.{Stays, Behind, Anew}
use Rattle.sd_machine.specs.Choosing.{neighbours, numbers_read, victim_for}
use Rattle.sd_machine.specs.Conditions.{sema_v_plan}
use Rattle.sd_machine.specs.Dispatching.{dispatch_plan, leave_event, must_leave}
use Rattle.sd_machine.specs.Hints.{placed_thread}
use Rattle.sd_machine.specs.Locking.{grant_reader_plan, grant_writer_plan, is_eligible, unblock_plan}
use Rattle.sd_machine.specs.Plans.{ageing_plan, ageing_plan_of, cpu_plan, cpu_plan_of, duty_plan, duty_plan_of, first_of, free_plan_of, nap_plan, op_plan, or_plan, plan, run_plan_of}
use Rattle.sd_machine.specs.Prioritising.{age_plan, answer_to, prio_plan}
use Rattle.sd_machine.specs.Requeueing.{requeue_plan}
use Rattle.sd_machine.specs.SetChanges.{closing_plan}
use Rattle.sd_machine.specs.Sleeping.{napend_plan, rouse_plan, wake_plan, woken_priority}
use Rattle.sd_machine.specs.Threads.{best_queued, best_ready, best_sleeper, best_sleeper_below, best_waiter, first_due, lock_of, next_to_age, open_of, priority_of, runner, thread_id}
use Rattle.sd_machine.specs.Walking.{walk_plan}
use Rattle.sd_footprint.proofs.ThereLemmas.{AllThere, IsKnown, chain_there, cpu_inside, cpu_set, ready_there, sleepers_there, there_join, thread_set}
use Rattle.sd_dispatcher.specs.Touched.{victim_parts}
use Rattle.sd_invariants.proofs.Named.{assign_cpu, bind_cpu}
use Rattle.sd_invariants.specs.Laws.{is_in}
use Rattle.sd_frames.proofs.Found.{due_found, queued_found, sleeper_below_found, sleeper_found, waiter_found}
use Rattle.sd_state.proofs.Declared.{declared}
use Rattle.sd_invariants.proofs.Works.{op_named}
use Rattle.sd_step.specs.Needed.{choice_parts, cpu_parts, later_parts, needed, next_parts, op_parts, plan_parts, read_parts, reads_parts, run_parts, turn_parts}
use Rattle.sd_step.specs.Tasks.{task_parts}
use Rattle.sd_store.specs.declared.parts.Part.{Part}
use Rattle.sd_store.specs.Keyless.{task_of}
use Rattle.sd_store.specs.Parts.{bound_parts, owner_parts}

-- The victim of a search is one of the processors that are searched; where what was read is not of these, it may be processor 0.

abbrev AllBelow : ℕ → List CpuId → Type 0
AllBelow n [] = Unit {0}
AllBelow n (c ∷ cs) = (c.0 < n) × AllBelow n cs

listed_below : (n : ℕ) (xs : List CpuId) → ((d : ℕ) → is_in d xs ≡ true → d < n) → AllBelow n xs
listed_below n [] each = tt
listed_below n (x ∷ xs) each =
    let here : (x.0 == x.0) ≡ true = grind (arith, nat_tests) in
    (each x.0 (or_left (x.0 == x.0) (is_in x.0 xs) here), listed_below n xs (λ d is. each d (or_right (x.0 == d) (is_in d xs) is)))

filter_below : (n : ℕ) (p : CpuId → Bool) (xs : List CpuId) → AllBelow n xs → AllBelow n (filter p xs)
filter_below n p [] below = tt
filter_below n p (x ∷ xs) below = by (p x) (filter_below n p xs below.1)
  where
    by : (a : Bool) → AllBelow n (filter p xs) → AllBelow n (if a then (x ∷ filter p xs) else filter p xs)
    by true rest = (below.0, rest)
    by false rest = rest

hint_below : (n hint : ℕ) (cpus : List CpuId) (hints : List ℕ) → AllBelow n cpus → AllBelow n (with_hint hint cpus hints)
hint_below n hint [] hints below = tt
hint_below n hint (c ∷ cs) [] below = tt
hint_below n hint (c ∷ cs) (h ∷ hs) below = by (h == hint) (hint_below n hint cs hs below.1)
  where
    by : (a : Bool) → AllBelow n (with_hint hint cs hs) → AllBelow n (if a then (c ∷ with_hint hint cs hs) else with_hint hint cs hs)
    by true rest = (below.0, rest)
    by false rest = rest

least_below : (n : ℕ) (cpus : List CpuId) → 0 < n → AllBelow n cpus → (least_number cpus).0 < n
least_below n [] some below = some
least_below n (c ∷ []) some below = below.0
least_below n (c ∷ (d ∷ ds)) some below = let here = below.0 in let rest = least_below n (d ∷ ds) some below.1 in omega (arith, here, rest)

victim_below : (n : ℕ) (cpus : List CpuId) (hints : List ℕ) → 0 < n → AllBelow n cpus → IfSome (victim_of cpus hints) (λ v. v.0 < n)
victim_below n cpus hints some below = by (greatest_hint hints == 0)
  where
    by : (a : Bool) → IfSome (if a then None else Some (least_number (with_hint (greatest_hint hints) cpus hints))) (λ v. v.0 < n)
    by true = tt
    by false = least_below n (with_hint (greatest_hint hints) cpus hints) some (hint_below n (greatest_hint hints) cpus hints below)

-- What an operation names is there.

abbrev IsNamed : Work → Option Op → Type 0
IsNamed w o = IfSome o (λ x. op_names (declared w) x ≡ true)

op_at : (w : Work) (t : ℕ) (b : ThreadBody) → IsNamed w (op_of w t b)
op_at w t b = by (op_of w t b) refl
  where
    by : (o : Option Op) → slice_get (script_of w t) b.op ≡ o → IsNamed w o
    by None e = tt
    by (Some x) e = op_named w t b.op x e

prio_thread : (w : Work) (u : ThreadId) (r : Request) → op_names (declared w) (op.Prio u r) ≡ true → u.0 < length w.threads
prio_thread w u r e = let less : nat_lt u.0 (length w.threads) ≡ true = and_left _ (request_fits r) e in grind (arith, nat_tests)

bind_thread : (w : Work) (u : ThreadId) (d : Option CpuId) → op_names (declared w) (op.Pbind u d) ≡ true → u.0 < length w.threads
bind_thread w u d e = let less : nat_lt u.0 (length w.threads) ≡ true = and_left _ (bound_fits w.cpus d) e in grind (arith, nat_tests)

-- a plan of a thread that is there
abbrev Places : State → Plan → Type 0
Places s (Make e) = Unit {0}
Places s (Place thread p) = placed_thread thread < length s.threads
Places s Search = Unit {0}

abbrev PlacesIf : State → Option Plan → Type 0
PlacesIf s None = Unit {0}
PlacesIf s (Some p) = Places s p

module _ (w : Work) (s : State) (known : IsKnown w s) (c : CpuId) (here : c.0 < w.cpus) where
  thread_inside : (u : ThreadId) → u.0 < length w.threads → u.0 < length s.threads
  thread_inside u there = let many = known.fits.threads in omega (arith, there, many)

  owner_there : (l : ℕ) (x : LockState) → lock_of s l ≡ x → AllThere s c (owner_parts x)
  owner_there l (Owned o) e = (known.owners l o e, tt)
  owner_there l _ e = tt

  bound_there : (d : Option CpuId) → IfSome d (λ x. x.0 < w.cpus) → AllThere s c (bound_parts d)
  bound_there None there = tt
  bound_there (Some d) there = (cpu_inside w s known d there, tt)

  op_there : (o : Option Op) → IsNamed w o → AllThere s c (op_parts s o)
  op_there (Some (op.Wake k)) named = (sleepers_there k, tt)
  op_there (Some (op.Enter l)) named = (chain_there l, owner_there l.0 (lock_of s l.0) refl)
  op_there (Some (op.Read l)) named = (chain_there l, tt)
  op_there (Some (op.Write l)) named = (chain_there l, tt)
  op_there (Some (op.Prio u r)) named = (thread_inside u (prio_thread w u r named), tt)
  op_there (Some (op.SemaP k)) named = (sleepers_there k, tt)
  op_there (Some (op.SemaV k)) named = (sleepers_there k, tt)
  op_there (Some (op.Assign d to)) named = ready_there w s known c d (cpu_inside w s known d (assign_cpu w d to named))
  op_there (Some (op.Pbind u d)) named = (thread_inside u (bind_thread w u d named), bound_there d (bind_cpu w u d named))
  op_there _ named = tt

  -- The parts of a plan.

  run_there : (o : Option ℕ) → AllThere s c (run_parts w s c o)
  run_there None = (cpu_set w s known c.0, tt)
  run_there (Some t) = op_there (op_of w t (thread_of s t).body) (op_at w t (thread_of s t).body)

  cpu_there : AllThere s c (cpu_parts w s c)
  cpu_there = (cpu_inside w s known c here, run_there (runner s c.0))

  later_there : (given later : Option Plan) → AllThere s c (later_parts w s c given later)
  later_there (Some p) later = tt
  later_there None (Some p) = (cpu_inside w s known c here, tt)
  later_there None None = cpu_there

  task_there : (d : Duty) (rest : List Part) → AllThere s c rest → AllThere s c (task_parts s (task_of d) rest)
  task_there duty.Nothing rest there = there
  task_there (duty.Walk l seek key) rest there = (chain_there l, owner_there l.0 (lock_of s l.0) refl)
  task_there (duty.WakeMutex l) rest there = (chain_there l, there)
  task_there (duty.GrantWriter l) rest there = (chain_there l, there)
  task_there (duty.GrantReaders l) rest there = (chain_there l, tt)
  task_there (duty.Rouse k below) rest there = (sleepers_there k, tt)
  task_there (duty.Age u) rest there = there

  plan_there : AllThere s c (plan_parts w s c)
  plan_there = (refl, task_there (cpu_of s c.0).duty (later_parts w s c (duty_plan w s c.0) (first_of (nap_plan w s c.0) (ageing_plan w s c.0))) (later_there (duty_plan w s c.0) (first_of (nap_plan w s c.0) (ageing_plan w s c.0))))

  -- The thread that a plan places is there.

  requeue_places : (q : Requeue) (event : Option Put → Event) (thread : Placement) (p : ℕ) → placed_thread thread < length s.threads → Places s (requeue_plan q event thread p)
  requeue_places Stays event thread p there = tt
  requeue_places (Behind d) event thread p there = tt
  requeue_places Anew event thread p there = there

  walk_places : (l : LockId) (x : LockState) → lock_of s l.0 ≡ x → Places s (walk_plan s l x)
  walk_places l (Owned o) e = requeue_places _ _ (placement.Will l o _) _ (known.owners l.0 o e)
  walk_places l _ e = tt

  unblock_places : (l : LockId) (o : Option ℕ) → best_waiter s l.0 Writer ≡ o → PlacesIf s (unblock_plan w s l o)
  unblock_places l None e = tt
  unblock_places l (Some u) e = (waiter_found s l.0 Writer u e).inside

  writer_places : (l : LockId) (o : Option ℕ) → best_waiter s l.0 Writer ≡ o → PlacesIf s (grant_writer_plan w s l o)
  writer_places l None e = tt
  writer_places l (Some u) e = (waiter_found s l.0 Writer u e).inside

  reader_places : (l : LockId) (o : Option ℕ) → best_waiter s l.0 Reader ≡ o → Places s (grant_reader_plan w s l o)
  reader_places l None e = tt
  reader_places l (Some u) e = by (is_eligible (priority_of s (Some u)) (priority_of s (best_waiter s l.0 Writer)))
    where
      by : (b : Bool) → Places s (if b then Place (placement.Grant l (thread_id u)) (woken_priority w s u) else Make (event.Passed l))
      by true = (waiter_found s l.0 Reader u e).inside
      by false = tt

  rouse_places : (k : ChanId) (o : Option ℕ) → ((u : ℕ) → o ≡ Some u → u < length s.threads) → Places s (rouse_plan w s k o)
  rouse_places k None found = tt
  rouse_places k (Some u) found = found u refl

  duty_places : (d : Duty) → PlacesIf s (duty_plan_of w s d)
  duty_places duty.Nothing = tt
  duty_places (duty.Walk l seek key) = walk_places l (lock_of s l.0) refl
  duty_places (duty.WakeMutex l) = unblock_places l (best_waiter s l.0 Writer) refl
  duty_places (duty.GrantWriter l) = writer_places l (best_waiter s l.0 Writer) refl
  duty_places (duty.GrantReaders l) = reader_places l (best_waiter s l.0 Reader) refl
  duty_places (duty.Rouse k below) = rouse_places k (best_sleeper_below s k.0 below) (λ u e. (sleeper_below_found s k.0 below u e).inside)
  duty_places (duty.Age u) = tt

  nap_places : (o : Option ℕ) → first_due s c.0 ≡ o → PlacesIf s (napend_plan w s o)
  nap_places None e = tt
  nap_places (Some t) e = (due_found s c.0 t e).inside

  age_places : (o : Option ℕ) → PlacesIf s (age_plan w s o)
  age_places None = tt
  age_places (Some t) = tt

  ageing_places : (d : Duty) → PlacesIf s (ageing_plan_of w s c.0 d)
  ageing_places (duty.Age u) = age_places (next_to_age s c.0 u.0)
  ageing_places _ = tt

  wake_places : (t : ℕ) (k : ChanId) (o : Option ℕ) → best_sleeper s k.0 ≡ o → Places s (wake_plan w s t k o)
  wake_places t k None e = tt
  wake_places t k (Some u) e = (sleeper_found s k.0 u e).inside

  sema_places : (t : ℕ) (k : ChanId) (o : Option ℕ) → best_sleeper s k.0 ≡ o → Places s (sema_v_plan w s t k o)
  sema_places t k None e = tt
  sema_places t k (Some u) e = (sleeper_found s k.0 u e).inside

  prio_places : (t : ℕ) (u : ThreadId) (answer : Result ClassParms Denied) → u.0 < length s.threads → Places s (prio_plan w s t u answer)
  prio_places t u (Err denied) there = tt
  prio_places t u (Ok parms) there = requeue_places _ _ (placement.Prio (thread_id t) u _) _ there

  op_places : (t : ℕ) (o : Option Op) → IsNamed w o → Places s (op_plan w s t o)
  unfolding op_plan
  op_places t (Some (op.Wake k)) named = wake_places t k (best_sleeper s k.0) refl
  op_places t (Some (op.SemaV k)) named = sema_places t k (best_sleeper s k.0) refl
  op_places t (Some (op.Prio u r)) named = prio_places t u (answer_to w s t u.0 r) (thread_inside u (prio_thread w u r named))
  op_places t _ named = tt

  run_places : (t : ℕ) (leaves : Bool) → Places s (run_plan_of w s t (if leaves then Some (Make (leave_event c.0 t (thread_of s t).body (thread_of s t).body.bound)) else None))
  run_places t true = tt
  run_places t false = op_places t (op_of w t (thread_of s t).body) (op_at w t (thread_of s t).body)

  dispatch_places : (o : Option ℕ) → Places s (dispatch_plan s o)
  dispatch_places None = tt
  dispatch_places (Some t) = tt

  closing_places : (to : SetId) (o : Option ℕ) → best_queued s c.0 ≡ o → Places s (closing_plan s to o)
  closing_places to None e = tt
  closing_places to (Some t) e = (queued_found s c.0 t e).inside

  free_places : (closing : Option SetId) → Places s (free_plan_of s c.0 closing)
  free_places None = dispatch_places (best_ready s c.0)
  free_places (Some to) = closing_places to (best_queued s c.0) refl

  cpu_places : (o : Option ℕ) → Places s (cpu_plan_of w s c.0 o)
  cpu_places None = free_places (cpu_of s c.0).closing
  cpu_places (Some t) = run_places t (must_leave (cpu_of s c.0) (thread_of s t).body)

  first_places : (o q : Option Plan) → PlacesIf s o → PlacesIf s q → PlacesIf s (first_of o q)
  first_places None q first later = later
  first_places (Some p) q first later = first

  either_places : (o : Option Plan) (p : Plan) → PlacesIf s o → Places s p → Places s (or_plan o p)
  either_places None p first later = later
  either_places (Some q) p first later = first

  places : Places s (plan w s c.0)
  unfolding plan cpu_plan duty_plan nap_plan ageing_plan
  places =
      let d : Duty = (cpu_of s c.0).duty in
      either_places (first_of (duty_plan_of w s d) (first_of (napend_plan w s (first_due s c.0)) (ageing_plan_of w s c.0 d))) (cpu_plan_of w s c.0 (runner s c.0))
      (first_places (duty_plan_of w s d) (first_of (napend_plan w s (first_due s c.0)) (ageing_plan_of w s c.0 d)) (duty_places d)
      (first_places (napend_plan w s (first_due s c.0)) (ageing_plan_of w s c.0 d) (nap_places (first_due s c.0) refl) (ageing_places d)))
      (cpu_places (runner s c.0))

  -- What is read and chosen from.

  victim_there : (hints : Option Hints) → AllThere s c (victim_parts (victim_for s c.0 hints))
  unfolding victim_for neighbours
  victim_there hints =
      let p : ℕ = (cpu_of s c.0).set.0 in
      let others : List CpuId = filter (λ d. not (d.0 == c.0)) (open_of s p) in
      let opened : AllBelow w.cpus (open_of s p) = listed_below w.cpus (open_of s p) (λ d is. (known.opened.member p d is).0) in
      by (victim_of others (numbers_read others hints)) (victim_below w.cpus others (numbers_read others hints) (omega (arith, here)) (filter_below w.cpus (λ d. not (d.0 == c.0)) (open_of s p) opened))
    where
      by : (o : Option CpuId) → IfSome o (λ v. v.0 < w.cpus) → AllThere s c (victim_parts o)
      by None there = tt
      by (Some v) there = (cpu_inside w s known v there, tt)

  read_there : (p : Plan) → Places s p → AllThere s c (read_parts w s c p)
  read_there (Make e) there = tt
  read_there (Place thread p) there = (refl, (there, (thread_set w s known (placed_thread thread), tt)))
  read_there Search there = ready_there w s known c c (cpu_inside w s known c here)

  choice_there : (hints : Option Hints) (p : Plan) → Places s p → AllThere s c (choice_parts w s c hints p)
  choice_there hints (Make e) there = tt
  choice_there hints (Place thread p) there = read_there (Place thread p) there
  choice_there hints Search there = there_join s c (read_parts w s c Search) (victim_parts (victim_for s c.0 hints)) (read_there Search there) (victim_there hints)

  -- What is looked at to find what is read, the event that follows from it, and whether it may be made.

  pub reads_there : AllThere s c (reads_parts w s c)
  reads_there = there_join s c (plan_parts w s c) (read_parts w s c (plan w s c.0)) plan_there (read_there (plan w s c.0) places)

  pub needed_there : (hints : Option Hints) → AllThere s c (needed w s c hints)
  needed_there hints = there_join s c (plan_parts w s c) (choice_parts w s c hints (plan w s c.0)) plan_there (choice_there hints (plan w s c.0) places)

  pub next_there : (hints : Option Hints) → AllThere s c (next_parts w s c hints)
  next_there hints =
      let p : Plan = plan w s c.0 in
      there_join s c (plan_parts w s c) (turn_parts w s c hints p) plan_there
      (there_join s c (read_parts w s c p) (choice_parts w s c hints p) (read_there p places) (choice_there hints p places))
