-- The duty of a processor is no part of what an event needs or touches: so both are the same once the ageing that is over has
-- been dropped.
use Rattle.std.proofs.Common.{◌≡◌, ℕ, ◌+◌, ◌<◌, ◌≤◌, ◌^◌, Bool, true, false, length, List, ◌∷◌, Option, Some, None, refl, sym, ap, ◌∙◌, subst, arith}
use Rattle.std.proofs.lemmas.Grind.{common_steps}
use Rattle.std.proofs.lemmas.List.{set-get_or}
use Rattle.std.specs.Prelude.{IfSome, if◌then◌else◌}
use Rattle.sd_types.specs.declared.numbers.CpuId.{CpuId}
use Rattle.sd_types.specs.declared.numbers.SetId.{SetId}
use Rattle.sd_types.specs.declared.numbers.ThreadId.{ThreadId}
use Rattle.sd_types.specs.declared.events.BindAnswer.{BindAnswer}
use Rattle.sd_types.specs.declared.events.BindAnswer.TheVariants as bind
use Rattle.sd_types.specs.declared.events.Duty.{Duty}
use Rattle.sd_types.specs.declared.events.Duty.TheVariants as duty
use Rattle.sd_types.specs.declared.events.Event.{Event}
use Rattle.sd_types.specs.declared.events.Event.TheVariants.{Tick, Spin, Will, Exit, Prio, Assign}
use Rattle.sd_types.specs.declared.events.PrioAnswer.{PrioAnswer}
use Rattle.sd_types.specs.declared.events.PrioAnswer.TheVariants.{Changed, Refused}
use Rattle.sd_types.specs.declared.events.Put.{Put}
use Rattle.sd_types.specs.declared.works.Work.{Work}
use Rattle.sd_state.specs.declared.states.CpuState.{CpuState}
use Rattle.sd_state.specs.declared.states.Place.{Place}
use Rattle.sd_state.specs.declared.states.Place.TheVariants as place
use Rattle.sd_state.specs.declared.states.State.{State}
use Rattle.sd_state.specs.States.{thread_of, cpu_of, no_cpu, with_cpu}
use Rattle.sd_state.specs.Operations.{op_of}
use Rattle.sd_machine.specs.Changes.{cpu_put, set_duty}
use Rattle.sd_machine.specs.Events.{drop_ageing, dropped_duty, keeps_ageing}
use Rattle.sd_machine.specs.Needs.{CanAct, CanBeBound, CanBeChanged, CanBind, CanUnbind, IsBindPut, IsPrioPut, IsPutIf, IsWoken, Need, Met, Needs, RunsThere}
use Rattle.sd_machine.specs.Needs.Need.{Cpu, SetOf, At, AtIf, Woken, PlaceOf, Acts, Stays, Ticks, Naps, Holds, Inherits, Receives, IsChanged, IsBound}
use Rattle.sd_machine.proofs.NeedLemmas.{needs_met}
use Rattle.sd_machine.specs.Sleeping.{nap_ticks}
use Rattle.sd_machine.specs.Threads.{runner}
use Rattle.sd_dispatcher.specs.Touched.{reordered_parts}
use Rattle.sd_dispatcher.proofs.Kept.{kept_set}
use Rattle.sd_dispatcher.proofs.RunningLemmas.{same_ready}
use Rattle.sd_step.specs.Tasks.{task_dropped}
use Rattle.sd_step.specs.Touched.{touched}
use Rattle.sd_store.specs.declared.parts.Part.{Part}
use Rattle.sd_store.specs.Keyless.{task_of}
use Rattle.sd_store.specs.Parts.{actor_part, chain_part, ready_parts, thread_part}

-- a field of a processor that is kept with its duty changed
kept_count : (s : State) (c d : ℕ) (duty : Duty) → (cpu_of (with_cpu s c (record (cpu_of s c) { duty = duty })) d).count ≡ (cpu_of s d).count
kept_count s c d duty = grind (arith, common_steps)

kept_bound : (s : State) (c d : ℕ) (duty : Duty) → (cpu_of (with_cpu s c (record (cpu_of s c) { duty = duty })) d).bound ≡ (cpu_of s d).bound
kept_bound s c d duty = grind (arith, common_steps)

kept_cpus : (s : State) (c : ℕ) (duty : Duty) → length (with_cpu s c (record (cpu_of s c) { duty = duty })).cpus ≡ length s.cpus
kept_cpus s c duty = grind (arith, common_steps)

module _ (w : Work) (s : State) (c : CpuId) (d : Duty) where
  count_left : (P : ℕ → Type 0) → P (cpu_of s c.0).count → P (cpu_of (set_duty s c.0 d) c.0).count
  unfolding set_duty
  count_left P p = subst P (sym (kept_count s c.0 c.0 d)) p

  bound_left : (P : ℕ → Type 0) (e : ℕ) → P (cpu_of s e).bound → P (cpu_of (set_duty s c.0 d) e).bound
  unfolding set_duty
  bound_left P e p = subst P (sym (kept_bound s c.0 e d)) p

  set_left : (P : ℕ → Type 0) (e : ℕ) → P (cpu_of s e).set.0 → P (cpu_of (set_duty s c.0 d) e).set.0
  unfolding set_duty
  set_left P e p = subst (λ (q : SetId). P q.0) (sym (kept_set s c.0 e (record (cpu_of s c.0) { duty = d }) refl)) p

  cpus_left : (P : ℕ → Type 0) → P (length s.cpus) → P (length (set_duty s c.0 d).cpus)
  unfolding set_duty
  cpus_left P p = subst P (sym (kept_cpus s c.0 d)) p

  cpu_left : (e : CpuId) → e.0 < length s.cpus → e.0 < length (set_duty s c.0 d).cpus
  cpu_left e p = cpus_left (λ n. e.0 < n) p

  put_left_if : (at : Option Put) → IsPutIf s at → IsPutIf (set_duty s c.0 d) at
  put_left_if at p = cpus_left (λ n. IfSome at (λ q. (cpu_put q).0 < n)) p

  woken_left : (u : Option (ThreadId × Put)) → IsWoken s u → IsWoken (set_duty s c.0 d) u
  unfolding set_duty
  woken_left u n = record { thread = n.thread; put = cpus_left (λ m. IfSome u (λ v. (cpu_put v.1).0 < m)) n.put }

  runs_left : (t : ThreadId) → RunsThere s t → RunsThere (set_duty s c.0 d) t
  unfolding set_duty
  runs_left t n = λ e is. cpu_left e (n e is)

  prio_left : (answer : PrioAnswer) → IsPrioPut s answer → IsPrioPut (set_duty s c.0 d) answer
  prio_left (Changed p at) n = put_left_if at n
  prio_left (Refused denied) n = tt

  bind_left : (answer : BindAnswer) → IsBindPut s answer → IsBindPut (set_duty s c.0 d) answer
  bind_left (bind.Changed at) n = put_left_if at n
  bind_left bind.ESRCH n = tt
  bind_left bind.EINVAL n = tt
  bind_left bind.EPERM n = tt
  bind_left bind.EBUSY n = tt

  one_left : (e : Option CpuId) (answer : BindAnswer) → CanBind s e answer → CanBind (set_duty s c.0 d) e answer
  one_left None answer n = tt
  one_left (Some e) (bind.Changed at) n = bound_left (λ m. m + 1 < 2 ^ 16) e.0 n
  one_left (Some e) bind.ESRCH n = tt
  one_left (Some e) bind.EINVAL n = tt
  one_left (Some e) bind.EPERM n = tt
  one_left (Some e) bind.EBUSY n = tt

  each_left : (o : Option CpuId) → IfSome o (λ b. (b.0 < length s.cpus) × (1 ≤ (cpu_of s b.0).bound)) → IfSome o (λ b. (b.0 < length (set_duty s c.0 d).cpus) × (1 ≤ (cpu_of (set_duty s c.0 d) b.0).bound))
  each_left None n = tt
  each_left (Some b) n = (cpu_left b n.0, bound_left (λ m. 1 ≤ m) b.0 n.1)

  un_left : (u : ThreadId) (e : Option CpuId) (answer : BindAnswer) → CanUnbind s u e answer → CanUnbind (set_duty s c.0 d) u e answer
  unfolding set_duty
  un_left u None (bind.Changed at) n = each_left (thread_of s u.0).body.bound n
  un_left u None bind.ESRCH n = tt
  un_left u None bind.EINVAL n = tt
  un_left u None bind.EPERM n = tt
  un_left u None bind.EBUSY n = tt
  un_left u (Some e) answer n = tt

  changed_left : (t u : ThreadId) (answer : PrioAnswer) → CanBeChanged w s t u answer → CanBeChanged w (set_duty s c.0 d) t u answer
  unfolding set_duty
  changed_left t u answer n = record { request = n.request; thread = n.thread; put = prio_left answer n.put; unmoved = n.unmoved; running = runs_left u n.running }

  bound_kept : (u : ThreadId) (e : Option CpuId) (answer : BindAnswer) → CanBeBound s u e answer → CanBeBound (set_duty s c.0 d) u e answer
  unfolding set_duty
  bound_kept u e answer n = record {
    thread = n.thread;
    cpu = cpus_left (λ m. IfSome e (λ x. x.0 < m)) n.cpu;
    put = bind_left answer n.put;
    bound = one_left e answer n.bound;
    unbound = un_left u e answer n.unbound;
    before = cpus_left (λ m. IfSome (thread_of s u.0).body.bound (λ b. b.0 < m)) n.before;
    running = runs_left u n.running;
  }

  acts_left : (t : ThreadId) → CanAct w s t c → CanAct w (set_duty s c.0 d) t c
  unfolding set_duty
  acts_left t n = record { thread = n.thread; place = n.place; op = n.op }

  tick_left : (cpu_of s c.0).count < w.limit → (cpu_of (set_duty s c.0 d) c.0).count < w.limit
  tick_left n = count_left (λ m. m < w.limit) n

  nap_left : (t : ThreadId) → (cpu_of s c.0).count + nap_ticks (op_of w t.0 (thread_of s t.0).body) < 2 ^ 32 → (cpu_of (set_duty s c.0 d) c.0).count + nap_ticks (op_of w t.0 (thread_of (set_duty s c.0 d) t.0).body) < 2 ^ 32
  unfolding set_duty
  nap_left t n = count_left (λ m. m + nap_ticks (op_of w t.0 (thread_of s t.0).body) < 2 ^ 32) n

  need_left : (a : Need) → Met w s c a → Met w (set_duty s c.0 d) c a
  unfolding set_duty runner
  need_left (Cpu e) n = cpu_left e n
  need_left (SetOf e) n = set_left (λ m. m < length s.open_cpus) e.0 n
  need_left (At at) n = cpu_left (cpu_put at) n
  need_left (AtIf at) n = put_left_if at n
  need_left (Woken u) n = woken_left u n
  need_left (PlaceOf t) n = runs_left t n
  need_left (Acts t) n = acts_left t n
  need_left (Stays t) n = record { thread = n.thread; place = n.place }
  need_left Ticks n = tick_left n
  need_left (Naps t) n = nap_left t n
  need_left (Holds t l) n = record { room = n.room; apart = n.apart }
  need_left (Inherits o l) n = record { sound = n.sound; held = n.held; below = n.below }
  need_left (Receives u l) n = record { thread = n.thread; op = n.op; room = n.room; apart = n.apart; sound = n.sound; below = n.below; more = n.more }
  need_left (IsChanged t u answer) n = changed_left t u answer n
  need_left (IsBound u e answer) n = bound_kept u e answer n
  need_left _ n = n

  pub needs_left : (e : Event) → Needs w s c e → Needs w (set_duty s c.0 d) c e
  needs_left e n = needs_met w s (set_duty s c.0 d) c (λ a met. need_left a met) e n

  ready_left : (e : CpuId) → ready_parts (set_duty s c.0 d) e ≡ ready_parts s e
  unfolding set_duty
  ready_left e = same_ready s (with_cpu s c.0 (record (cpu_of s c.0) { duty = d })) e (kept_set s c.0 e.0 (record (cpu_of s c.0) { duty = d }) refl)

  reordered_left : (t : ThreadId) (at : Option Put) (p : Place) → reordered_parts w (set_duty s c.0 d) t at p ≡ reordered_parts w s t at p
  reordered_left t at (place.Running e) = ap (λ (ps : List Part). thread_part t ∷ ps) (ready_left e)
  reordered_left t at p = refl

  pub touched_left : (e : Event) → touched w (set_duty s c.0 d) c e ≡ touched w s c e
  unfolding set_duty
  touched_left (Tick t) = ap (λ (ps : List Part). actor_part c ∷ (thread_part t ∷ ps)) (ready_left c)
  touched_left (Spin t l) = ap (λ (ps : List Part). actor_part c ∷ (thread_part t ∷ ps)) (ready_left c)
  touched_left (Will l o p at) = ap (λ (ps : List Part). actor_part c ∷ (chain_part l ∷ ps)) (reordered_left o at (thread_of s o.0).place)
  touched_left (Exit t l) = ap (λ (ps : List Part). actor_part c ∷ (chain_part l ∷ (thread_part t ∷ ps))) (ready_left c)
  touched_left (Prio t u (Changed p at)) = ap (λ (ps : List Part). thread_part t ∷ (actor_part c ∷ (thread_part u ∷ ps))) (reordered_left u at (thread_of s u.0).place)
  touched_left (Assign t f to answer) = ap (λ (ps : List Part). thread_part t ∷ ps) (ready_left f)
  touched_left _ = refl

-- with the ageing dropped that is over
pub needs_dropped : (w : Work) (s : State) (c : CpuId) (e : Event) → Needs w s c e → Needs w (drop_ageing s c.0 e) c e
unfolding drop_ageing
needs_dropped w s c e n = needs_left w s c (dropped_duty e (cpu_of s c.0).duty) e n

pub touched_dropped : (w : Work) (s : State) (c : CpuId) (e : Event) → touched w (drop_ageing s c.0 e) c e ≡ touched w s c e
unfolding drop_ageing
touched_dropped w s c e = touched_left w s c (dropped_duty e (cpu_of s c.0).duty) e

-- a duty that is not dropped is the same
same_duty : (s : State) (c : ℕ) → set_duty s c (cpu_of s c).duty ≡ s
unfolding set_duty
same_duty s c = ap (λ (xs : List CpuState). record s { cpus = xs }) (set-get_or s.cpus c no_cpu)

kept_by : (s : State) (c : CpuId) (e : Event) (f : Duty) → (cpu_of s c.0).duty ≡ f → dropped_duty e f ≡ f → drop_ageing s c.0 e ≡ s
unfolding drop_ageing
kept_by s c e f is kept = ap (λ (x : Duty). set_duty s c.0 (dropped_duty e x)) is ∙ (ap (λ (x : Duty). set_duty s c.0 x) (kept ∙ sym is) ∙ same_duty s c.0)

age_dropped : (s : State) (c : CpuId) (e : Event) (u : ThreadId) → (cpu_of s c.0).duty ≡ duty.Age u → drop_ageing s c.0 e ≡ (if keeps_ageing e then s else set_duty s c.0 duty.Nothing)
unfolding drop_ageing
age_dropped s c e u is = ap (λ (x : Duty). set_duty s c.0 (dropped_duty e x)) is ∙ by (keeps_ageing e)
  where
    by : (b : Bool) → set_duty s c.0 (if b then duty.Age u else duty.Nothing) ≡ (if b then s else set_duty s c.0 duty.Nothing)
    by true = ap (λ (x : Duty). set_duty s c.0 x) (sym is) ∙ same_duty s c.0
    by false = refl

dropped_at : (s : State) (c : CpuId) (e : Event) (d : Duty) → (cpu_of s c.0).duty ≡ d → drop_ageing s c.0 e ≡ task_dropped s c e (task_of d)
dropped_at s c e duty.Nothing is = kept_by s c e duty.Nothing is refl
dropped_at s c e (duty.Walk l seek key) is = kept_by s c e (duty.Walk l seek key) is refl
dropped_at s c e (duty.WakeMutex l) is = kept_by s c e (duty.WakeMutex l) is refl
dropped_at s c e (duty.GrantWriter l) is = kept_by s c e (duty.GrantWriter l) is refl
dropped_at s c e (duty.GrantReaders l) is = kept_by s c e (duty.GrantReaders l) is refl
dropped_at s c e (duty.Rouse k below) is = kept_by s c e (duty.Rouse k below) is refl
dropped_at s c e (duty.Age u) is = age_dropped s c e u is

pub dropped_by_task : (s : State) (c : CpuId) (e : Event) → drop_ageing s c.0 e ≡ task_dropped s c e (task_of (cpu_of s c.0).duty)
dropped_by_task s c e = dropped_at s c e (cpu_of s c.0).duty refl
