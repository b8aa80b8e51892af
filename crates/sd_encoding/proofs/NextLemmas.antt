-- The event of a processor, what it reads for it and the numbers that are shown to it: the same in states whose keys have
-- the same order.
use Rattle.std.proofs.Common.{◌≡◌, ℕ, ◌==◌, not, ◌&&◌, ◌||◌, List, filter, map, Option, Some, None, refl, ap, ◌∙◌}
use Rattle.std.specs.Prelude.{if◌then◌else◌, nat_lt}
use Rattle.sd_types.specs.declared.numbers.CpuId.{CpuId}
use Rattle.sd_types.specs.declared.events.Event.TheVariants as event
use Rattle.sd_types.specs.declared.events.Hints.{Hints}
use Rattle.sd_types.specs.declared.events.Which.{Which}
use Rattle.sd_types.specs.declared.events.Which.TheVariants.{Running as OfRunning, Queued as OfQueued}
use Rattle.sd_types.specs.declared.works.Work.{Work}
use Rattle.sd_types.specs.Events.{ticks}
use Rattle.sd_rules.specs.ChoiceFunctions.{chosen, victim_of}
use Rattle.sd_machine.specs.declared.plans.Plan.{Plan}
use Rattle.sd_machine.specs.declared.plans.Plan.TheVariants.{Make, Place as PlaceIt, Search}
use Rattle.sd_state.specs.declared.states.State.{State}
use Rattle.sd_state.specs.States.{cpu_of, set_of}
use Rattle.sd_machine.specs.Choosing.{choice, cpus_for, cpus_or_bound, is_recent, is_warm, neighbours, numbers_read, put_chosen, put_on, victim_for}
use Rattle.sd_machine.specs.Dispatching.{search_event, steal_event}
use Rattle.sd_machine.specs.Events.{event_of, next, plan_event, wish}
use Rattle.sd_machine.specs.Hints.{hint_of, hint_shown, hints_fit, placed_thread, plan_reads, read_for, read_of, reads, reads_for}
use Rattle.sd_machine.specs.Plans.{plan}
use Rattle.sd_machine.specs.Runs.{serial_hints, shown}
use Rattle.sd_machine.specs.Threads.{best_unbound, open_of, runner, thread_id}
use Rattle.sd_encoding.proofs.AlikeLemmas.{body_same}
use Rattle.sd_encoding.proofs.PlanLemmas.{plan_same}
use Rattle.sd_encoding.proofs.PutLemmas.{priority_same}
use Rattle.sd_encoding.proofs.SourceLemmas.{AreAlike}
use Rattle.sd_encoding.proofs.TellLemmas.{best_unbound_same, count_same, eff_same, may_tick_same, open_same, runner_same, set_same}

module _ (n m : ℕ) (x s : State) (h : AreAlike n m x s) where
  pub hint_same : (which : Which) (d : CpuId) → hint_shown x which d ≡ hint_shown s which d
  unfolding hint_shown
  hint_same OfRunning d = ap hint_of (priority_same n m x s h (runner x d.0) (runner s d.0) (runner_same x s h.same d.0))
  hint_same OfQueued d = ap hint_of (priority_same n m x s h (best_unbound x d.0) (best_unbound s d.0) (best_unbound_same x s h.same d.0))

  -- Reading.

  cpus_same : (w : Work) (t : ℕ) → cpus_for w x t ≡ cpus_for w s t
  unfolding cpus_for
  cpus_same w t i = cpus_or_bound (open_same x s h.same (set_of w t).0 i) (body_same x s h.same.bare t i).bound

  warm_same : (c t : ℕ) → is_warm x c t ≡ is_warm s c t
  warm_same c t i = is_recent (count_same x s h.same c i) (body_same x s h.same.bare t i).left_at

  reads_for_same : (w : Work) (c t : ℕ) → reads_for w x c t ≡ reads_for w s c t
  unfolding reads_for
  reads_for_same w c t i = read_for (cpus_same w t i) (body_same x s h.same.bare t i).last (warm_same c t i)

  neighbours_same : (c : ℕ) → neighbours x c ≡ neighbours s c
  unfolding neighbours
  neighbours_same c =
      ap (filter (λ d. not (d.0 == c))) (open_same x s h.same (cpu_of x c).set.0 ∙ ap (open_of s) (set_same x s h.same c))

  plan_reads_by : (w : Work) (c : ℕ) (p : Plan) → plan_reads w x c p ≡ plan_reads w s c p
  plan_reads_by w c (Make e) = refl
  plan_reads_by w c (PlaceIt placement p) = reads_for_same w c (placed_thread placement)
  plan_reads_by w c Search = ap read_of (neighbours_same c)

  pub reads_same : (w : Work) (c : CpuId) → reads w x c.0 ≡ reads w s c.0
  unfolding reads
  reads_same w c = plan_reads_by w c.0 (plan w x c.0) ∙ ap (plan_reads w s c.0) (plan_same n m x s h w c)

  -- The event.

  choice_same : (w : Work) (c t : ℕ) (hints : Option Hints) → choice w x c t hints ≡ choice w s c t hints
  unfolding choice
  choice_same w c t hints i = chosen (cpus_same w t i) (numbers_read (cpus_same w t i) hints) (body_same x s h.same.bare t i).last (warm_same c t i)

  put_same : (w : Work) (c t p : ℕ) (hints : Option Hints) → put_chosen w x c t p hints ≡ put_chosen w s c t p hints
  unfolding put_chosen
  put_same w c t p hints i = put_on p (body_same x s h.same.bare t i).bound (choice_same w c t hints i)

  victim_same : (c : ℕ) (hints : Option Hints) → victim_for x c hints ≡ victim_for s c hints
  unfolding victim_for
  victim_same c hints i = victim_of (neighbours_same c i) (numbers_read (neighbours_same c i) hints)

  steal_by : (v : CpuId) (o : Option ℕ) → steal_event x v o ≡ steal_event s v o
  steal_by v None = refl
  steal_by v (Some t) = ap (event.Steal v (thread_id t)) (eff_same x s h.same t)

  search_by : (v : Option CpuId) → search_event x v ≡ search_event s v
  search_by None = refl
  search_by (Some v) = steal_by v (best_unbound x v.0) ∙ ap (steal_event s v) (best_unbound_same x s h.same v.0)

  plan_event_by : (w : Work) (c : ℕ) (hints : Option Hints) (p : Plan) → plan_event w x c hints p ≡ plan_event w s c hints p
  plan_event_by w c hints (Make e) = refl
  plan_event_by w c hints (PlaceIt placement p) = ap (event_of placement) (put_same w c (placed_thread placement) p hints)
  plan_event_by w c hints Search = search_by (victim_for x c hints) ∙ ap (search_event s) (victim_same c hints)

  pub wish_same : (w : Work) (c : CpuId) (hints : Option Hints) → wish w x c.0 hints ≡ wish w s c.0 hints
  unfolding wish
  wish_same w c hints = plan_event_by w c.0 hints (plan w x c.0) ∙ ap (plan_event w s c.0 hints) (plan_same n m x s h w c)

  pub next_same : (w : Work) (c : CpuId) (hints : Option Hints) → next w x c hints ≡ next w s c hints
  unfolding next
  next_same w c hints i =
      if nat_lt c.0 w.cpus && hints_fit (reads_same w c i) hints
      then (if not (ticks (wish_same w c hints i)) || may_tick_same x s h.same w c.0 i then Some (wish_same w c hints i) else None)
      else None

  -- The numbers that are shown.

  shown_by : (r : Option (Which × List CpuId)) → shown x r ≡ shown s r
  shown_by None = refl
  shown_by (Some r) = λ i. Some (record { which = r.0; numbers = record { items = map (λ d. hint_same r.0 d i) r.1 } })

  pub serial_same : (w : Work) (c : CpuId) → serial_hints w x c ≡ serial_hints w s c
  unfolding serial_hints
  serial_same w c = shown_by (reads w x c.0) ∙ ap (shown s) (reads_same w c)
