-- Threads belong to their places behind an event that changes a set or a binding.
use Rattle.std.proofs.Common.{◌≡◌, ◌≢◌, ℕ, ◌<◌, Bool, true, false, length, Option, Some, None, refl, sym, ap, ◌∙◌, subst, inl, inr, arith}
use Rattle.std.specs.Prelude.{if◌then◌else◌, nat_le, ◌==◌}
use Rattle.std.proofs.lemmas.Bool.{cases_eq, cases_lt, eqb-true, false≢true}
use Rattle.std.proofs.lemmas.Bool.Decides.{nat_tests}
use Rattle.std.proofs.lemmas.List.{get_or_past}
use Rattle.std.proofs.lemmas.Option.{same_Some, none-some}
use Rattle.sd_basics.proofs.Numbers.{same_itself}
use Rattle.sd_types.specs.declared.numbers.CpuId.{CpuId}
use Rattle.sd_types.specs.declared.numbers.SetId.{SetId}
use Rattle.sd_types.specs.declared.numbers.ThreadId.{ThreadId}
use Rattle.sd_types.specs.declared.events.AssignAnswer.TheVariants as assign
use Rattle.sd_types.specs.declared.events.BindAnswer.TheVariants as bind_answer
use Rattle.sd_types.specs.declared.events.Event.{Event}
use Rattle.sd_types.specs.declared.events.Event.TheVariants.{Assign, Joined, Bind}
use Rattle.sd_types.specs.declared.events.Put.{Put}
use Rattle.sd_types.specs.declared.events.Put.TheVariants.{Cpu, RealTime as OnRealTime}
use Rattle.sd_types.specs.declared.works.Work.{Work}
use Rattle.sd_state.specs.declared.states.Place.{Place}
use Rattle.sd_state.specs.declared.states.Place.TheVariants.{Running, Queued, RealTime, Waiting, Asleep, Napping, Ended}
use Rattle.sd_state.specs.declared.states.ThreadState.{ThreadState}
use Rattle.sd_state.specs.declared.states.State.{State}
use Rattle.sd_state.specs.States.{no_thread, thread_of, cpu_of, is_running, is_queued, set_of, eff_of}
use Rattle.sd_machine.specs.Threads.{open_of, with_open, runner}
use Rattle.sd_machine.specs.Changes.{with_cpu_in, without_cpu, set_duty, close, join}
use Rattle.sd_machine.specs.SetChanges.{bound_put, unbound_put, bind_put, bind_to, cleared, assigned, joined, pbound}
use Rattle.sd_machine.specs.Events.{drop_ageing, effect, after}
use Rattle.sd_state.proofs.KeyLemmas.{IsPut}
use Rattle.sd_frames.specs.Causes.{IsCause}
use Rattle.sd_frames.proofs.CpuWords as C
use Rattle.sd_frames.proofs.Words.{of_threads}
use Rattle.sd_frames.proofs.HoldTable.{bound_part, pbound_bound}
use Rattle.sd_invariants.proofs.OpenLemmas.{place_part as set_part, place_marks, drop_places as places_dropped, cpus_same, other_place}
use Rattle.sd_frames.proofs.Searches.{nobody_runs}
use Rattle.sd_invariants.proofs.BoundLemmas.{threads_same}
use Rattle.sd_invariants.proofs.Movers.{bind_put_is}
use Rattle.sd_laws.specs.Belonging.{BelongsAt, Belongs, ThreadsBelong}
use Rattle.sd_laws.proofs.Alike.{heft, calm_alike, drop_calm}
use Rattle.sd_laws.proofs.Homes.{frame_belongs}
use Rattle.sd_laws.proofs.Joins.{assigned_sets, drop_sets, nobody_queued}
use Rattle.sd_laws.proofs.Outcomes.{Known, queued_at, runs_at}
use Rattle.sd_laws.proofs.Special.{Stands, alike_stands, then_stands, joined_stands, assigned_stands, none_bound, IsBindable, bindable, unbindable, BindIs, pbound_is, place_bound, bind_place, bind_others, bind_eff, bind_kernel, pbound_kernel}
use Rattle.sd_types.proofs.SameLemmas.{same_cpu}

-- a thread that is bound is there
bound_inside : (s : State) (u : ℕ) (f : CpuId) → (thread_of s u).body.bound ≡ Some f → u < length s.threads
bound_inside s u f is = elim (cases_lt u (length s.threads)) [
  | inl inside ↦ inside
  | inr past ↦ absurd (none-some f (sym (ap (λ (x : ThreadState). x.body.bound) (get_or_past s.threads u no_thread past)) ∙ is))
]

pub drop_stands : (s : State) (c : ℕ) (e : Event) → Stands s (drop_ageing s c e)
drop_stands s c e = alike_stands s _ (calm_alike s _ (drop_calm s c e))

close_others : (s : State) (d : CpuId) (to : SetId) (x : ℕ) → x ≢ d.0 → set_part (cpu_of (close s d to) x) ≡ set_part (cpu_of s x)
unfolding close
close_others s d to x other = other_place (with_open s (cpu_of s d.0).set.0 (without_cpu d (open_of s (cpu_of s d.0).set.0))) d.0 (record (cpu_of s d.0) { closing = Some to }) x other

assigned_others : (w : Work) (s : State) (t : ℕ) (d : CpuId) (to : SetId) (x : ℕ) → x ≢ d.0 → set_part (cpu_of (assigned w s t d to assign.Changed) x) ≡ set_part (cpu_of s x)
unfolding assigned
assigned_others w s t d to x other =
    (C.then_kept set_part (close s d to) (cleared (close s d to) d (runner s d.0)) _ (C.cleared_kept set_part place_marks (close s d to) d (runner s d.0)) (C.finish_op_kept set_part place_marks w _ t)).each x ∙ close_others s d to x other

joined_places : (s : State) (c : CpuId) (to : SetId) (x : ℕ) → x ≢ c.0 → set_part (cpu_of (joined s c to) x) ≡ set_part (cpu_of s x)
unfolding joined join
joined_places s c to x other = other_place (with_open s to.0 (with_cpu_in c (open_of s to.0))) c.0 (record (cpu_of s c.0) { set = to; closing = None }) x other

module _ (w : Work) (s : State) (k : Known w s) (n : ℕ) (c : CpuId) where
  drop_places : (e : Event) (x : ℕ) → set_part (cpu_of (drop_ageing s c.0 e) x) ≡ set_part (cpu_of s x)
  drop_places e x = (places_dropped s c.0 e).each x

  -- a thread stands as it stood, by processors whose sets stay
  stands_frame : (r : State) (u : ℕ) → Stands s r → (thread_of r u).body.bound ≡ (thread_of s u).body.bound
      → ((d : ℕ) → is_running d (thread_of s u).place ≡ true → (cpu_of r d).set ≡ (cpu_of s d).set) → ((d : ℕ) → is_queued d (thread_of s u).place ≡ true → (cpu_of r d).set ≡ (cpu_of s d).set)
      → ((d : CpuId) → (thread_of s u).body.bound ≡ Some d → set_part (cpu_of r d.0) ≡ set_part (cpu_of s d.0)) → Belongs w r u
  stands_frame r u a bound runs queued bounds = frame_belongs w s r u (record {
    place = a.places u;
    bound = bound;
    rests = inl (ap heft (a.weights u));
    runs = λ d on. (runs d on, a.marks.kernel d);
    queued = queued;
    bounds = λ d is. (ap (λ (x : SetId × Option SetId). x.0) (bounds d is), ap (λ (x : SetId × Option SetId). x.1) (bounds d is));
  }) (k.homes u)

  -- A processor closes: nobody is bound to it.
  pub assigned_belongs : (t : ThreadId) (d : CpuId) (to : SetId) → d.0 < length s.cpus → IsCause w s c.0 (Assign t d to assign.Changed) → ThreadsBelong w (after w s n c (Assign t d to assign.Changed))
  unfolding after effect
  assigned_belongs t d to inside cause u =
      let e : Event = Assign t d to assign.Changed in
      let q : State = drop_ageing s c.0 e in
      let r : State = assigned w q t.0 d to assign.Changed in
      let sets : (x : ℕ) → (cpu_of r x).set ≡ (cpu_of s x).set = λ x. assigned_sets w q t.0 d to assign.Changed x ∙ drop_sets s c.0 e x in
      stands_frame r u (then_stands s q r (drop_stands s c.0 e) (assigned_stands w q t.0 d to)) (bounds_same u) (λ x on. sets x) (λ x on. sets x)
      (λ f is. assigned_others w q t.0 d to f.0 (none_bound w s t.0 d to cause.1 (k.whole.bound d.0 inside) u (bound_inside s u f is) f is) ∙ drop_places e f.0)
    where
      bounds_same : (v : ℕ) → (thread_of (after w s n c (Assign t d to assign.Changed)) v).body.bound ≡ (thread_of s v).body.bound
      bounds_same v = (threads_same w s n c (Assign t d to assign.Changed) refl).each v

  -- A processor joins a set: nobody runs on it, none is on its queue, and none is bound to it.
  pub joined_belongs : (to : SetId) → IsCause w s c.0 (Joined to) → ThreadsBelong w (after w s n c (Joined to))
  unfolding after effect
  joined_belongs to cause u =
      let e : Event = Joined to in
      let q : State = drop_ageing s c.0 e in
      let r : State = joined q c to in
      let others : (x : ℕ) → x ≢ c.0 → set_part (cpu_of r x) ≡ set_part (cpu_of s x) = λ x other. joined_places q c to x other ∙ drop_places e x in
      stands_frame r u (then_stands s q r (drop_stands s c.0 e) (joined_stands q c to)) (bounds_same u)
      (λ x on. ap (λ (y : SetId × Option SetId). y.0) (others x (λ same. false≢true (sym (nobody_runs s c.0 cause.0.nobody u) ∙ subst (λ i. is_running i (thread_of s u).place ≡ true) same on))))
      (λ x on. ap (λ (y : SetId × Option SetId). y.0) (others x (λ same. false≢true (sym (nobody_queued s c.0 cause.2 u (queued_inside x on)) ∙ subst (λ i. is_queued i (thread_of s u).place ≡ true) same on))))
      (λ f is. others f.0 (λ same. none-some to (sym ((k.homes u).bound f is).1 ∙ ap (λ i. (cpu_of s i).closing) same ∙ cause.1)))
    where
      queued_inside : (x : ℕ) → is_queued x (thread_of s u).place ≡ true → u < length s.threads
      queued_inside x on = elim (cases_lt u (length s.threads)) [
        | inl inside ↦ inside
        | inr past ↦ absurd (false≢true (sym (ap (λ (y : ThreadState). is_queued x y.place) (get_or_past s.threads u no_thread past)) ∙ on))
      ]

      bounds_same : (v : ℕ) → (thread_of (after w s n c (Joined to)) v).body.bound ≡ (thread_of s v).body.bound
      bounds_same v = (threads_same w s n c (Joined to) refl).each v

  -- A thread is bound, or bound no more.
  module _ (t u : ThreadId) (d : Option CpuId) (at : Option Put) (inside : u.0 < length s.threads) (cause : IsCause w s c.0 (Bind t u d (bind_answer.Changed at))) where
    abbrev After : State
    After = after w s n c (Bind t u d (bind_answer.Changed at))

    pub bind_is : BindIs w s (after w s n c (Bind t u d (bind_answer.Changed at))) n u.0 at
    unfolding after effect
    bind_is = pbound_is w s (drop_ageing s c.0 (Bind t u d (bind_answer.Changed at))) n t.0 u.0 d at (drop_stands s c.0 (Bind t u d (bind_answer.Changed at))) inside

    bounds_put : IsPut u.0 d (of_threads bound_part s) (of_threads bound_part (after w s n c (Bind t u d (bind_answer.Changed at))))
    unfolding after effect drop_ageing set_duty
    bounds_put = (pbound_bound w (drop_ageing s c.0 (Bind t u d (bind_answer.Changed at))) n t.0 u.0 d at inside).put

    sets : (x : ℕ) → set_part (cpu_of After x) ≡ set_part (cpu_of s x)
    sets x = (cpus_same w s n c (Bind t u d (bind_answer.Changed at)) refl).each x

    own : (x : ℕ) → (cpu_of After x).set ≡ (cpu_of s x).set
    own x = ap (λ (y : SetId × Option SetId). y.0) (sets x)

    closes : (x : ℕ) → (cpu_of After x).closing ≡ (cpu_of s x).closing
    closes x = ap (λ (y : SetId × Option SetId). y.1) (sets x)

    put_is : bind_put s u.0 d ≡ at
    put_is = bind_put_is w s t.0 u.0 d at (sym cause.1)

    place_is : (o : Option Put) → at ≡ o → (thread_of After u.0).place ≡ place_bound w s n u.0 o
    place_is o is = bind_place w s After n u.0 at bind_is ∙ ap (place_bound w s n u.0) is

    same_eff : eff_of After u.0 ≡ eff_of s u.0
    same_eff = bind_eff w s After n u.0 at bind_is u.0

    others : (v : ℕ) → v ≢ u.0 → Belongs w After v
    others v other = frame_belongs w s After v (record {
      place = bind_others w s After n u.0 at bind_is v other;
      bound = bounds_put.others v other;
      rests = inl (bind_eff w s After n u.0 at bind_is v);
      runs = λ x on. (own x, bind_kernel w s After n u.0 at bind_is x);
      queued = λ x on. own x;
      bounds = λ f is. (own f.0, closes f.0);
    }) (k.homes v)

    -- it belongs where it stands now
    its_place : (b : Option CpuId) (o : Option Put) → d ≡ b → at ≡ o → BelongsAt After (set_of w u.0) (eff_of s u.0) b (place_bound w s n u.0 o)
        → BelongsAt After (set_of w u.0) (eff_of After u.0) (thread_of After u.0).body.bound (thread_of After u.0).place
    its_place b o is to belongs =
        subst (λ x. BelongsAt After (set_of w u.0) (eff_of After u.0) x (thread_of After u.0).place) (sym (bounds_put.at ∙ is))
        (subst (λ p. BelongsAt After (set_of w u.0) (eff_of After u.0) b p) (sym (place_is o to))
        (subst (λ m. BelongsAt After (set_of w u.0) m b (place_bound w s n u.0 o)) (sym same_eff) belongs))

    kernel_at : (f x : CpuId) → d ≡ Some f → at ≡ None → x.0 < length s.cpus → (thread_of s u.0).place ≡ Running x → f.0 ≢ x.0 → (cpu_of After x.0).kernel ≡ true
    unfolding after effect
    kernel_at f x is to here stands other =
        let q : State = drop_ageing s c.0 (Bind t u d (bind_answer.Changed at)) in
        let before = drop_stands s c.0 (Bind t u d (bind_answer.Changed at)) in
        let many = before.cpus in
        subst (λ y. (cpu_of (pbound w q n t.0 u.0 y (bind_answer.Changed at)) x.0).kernel ≡ true) (sym is)
        (subst (λ o. (cpu_of (pbound w q n t.0 u.0 (Some f) (bind_answer.Changed o)) x.0).kernel ≡ true) (sym to)
        (pbound_kernel w q n t.0 u.0 f x (omega (arith, many, here)) (before.places u.0 ∙ stands) other))

    -- bound to a processor
    bound_home : (f : CpuId) → d ≡ Some f → ((x : CpuId) → (thread_of s u.0).place ≡ Running x → x.0 < length s.cpus) → Belongs w After u.0
    bound_home f is there = record {
      place = by (thread_of s u.0).place refl (sym put_is ∙ ap (bind_put s u.0) is);
      bound = λ x bound. let same : x ≡ f = same_Some x f (sym bound ∙ bounds_put.at ∙ is) in
          (subst (λ (y : CpuId). (cpu_of After y.0).set ≡ set_of w u.0) (sym same) set_now, subst (λ (y : CpuId). (cpu_of After y.0).closing ≡ None) (sym same) (closes f.0 ∙ asks.stays_open));
    }
      where
        asks : IsBindable w s u.0 f
        asks = bindable w s t.0 u.0 f at (subst (λ y. bind_answer.Changed at ≡ bind_to w s t.0 u.0 y) is cause.1)

        set_now : (cpu_of After f.0).set ≡ set_of w u.0
        set_now = own f.0 ∙ asks.own

        goes : at ≡ Some (Cpu f) → BelongsAt After (set_of w u.0) (eff_of After u.0) (thread_of After u.0).body.bound (thread_of After u.0).place
        goes to = its_place (Some f) (Some (Cpu f)) is to (set_now, inr refl)

        stays : (p : Place) → (thread_of s u.0).place ≡ p → at ≡ None → BelongsAt After (set_of w u.0) (eff_of s u.0) (Some f) p → BelongsAt After (set_of w u.0) (eff_of After u.0) (thread_of After u.0).body.bound (thread_of After u.0).place
        stays p stands to belongs = its_place (Some f) None is to (subst (λ q. BelongsAt After (set_of w u.0) (eff_of s u.0) (Some f) q) (sym stands) belongs)

        kernel : (x : CpuId) → (thread_of s u.0).place ≡ Running x → at ≡ None → f.0 ≢ x.0 → (cpu_of After x.0).kernel ≡ true
        kernel x stands to other = kernel_at f x is to (there x stands) stands other

        by : (p : Place) → (thread_of s u.0).place ≡ p → at ≡ bound_put f (thread_of s u.0).place → BelongsAt After (set_of w u.0) (eff_of After u.0) (thread_of After u.0).body.bound (thread_of After u.0).place
        by (Running x) stands to =
            let none : at ≡ None = to ∙ ap (bound_put f) stands in
            stays (Running x) stands none (own x.0 ∙ (runs_at w s k u.0 x (ap (is_running x.0) stands ∙ same_itself x.0)).0, λ y bound other. kernel x stands none (subst (λ (z : CpuId). z.0 ≢ x.0) (same_Some y f (sym bound)) other))
        by (Queued x key) stands to = queue (x.0 == f.0) refl (to ∙ ap (bound_put f) stands)
          where
            queue : (b : Bool) → (x.0 == f.0) ≡ b → at ≡ (if b then None else Some (Cpu f)) → BelongsAt After (set_of w u.0) (eff_of After u.0) (thread_of After u.0).body.bound (thread_of After u.0).place
            queue true same h = stays (Queued x key) stands h (own x.0 ∙ (queued_at w s k u.0 x (ap (is_queued x.0) stands ∙ same_itself x.0)).0, inr (ap Some (same_cpu f x (sym (eqb-true x.0 f.0 same)))))
            queue false same h = goes h
        by (RealTime q key) stands to = goes (to ∙ ap (bound_put f) stands)
        by (Waiting l side key) stands to = stays (Waiting l side key) stands (to ∙ ap (bound_put f) stands) tt
        by (Asleep j key) stands to = stays (Asleep j key) stands (to ∙ ap (bound_put f) stands) tt
        by (Napping x due) stands to = stays (Napping x due) stands (to ∙ ap (bound_put f) stands) tt
        by Ended stands to = stays Ended stands (to ∙ ap (bound_put f) stands) tt

    -- bound to none
    free_home : (b : CpuId) → d ≡ None → (thread_of s u.0).body.bound ≡ Some b → Belongs w After u.0
    free_home b is was = record {
      place = by (thread_of s u.0).place refl (sym put_is ∙ ap (bind_put s u.0) is ∙ ap (λ y. unbound_put (eff_of s u.0) y (thread_of s u.0).place) was);
      bound = λ x bound. absurd (none-some x (sym (bounds_put.at ∙ is) ∙ bound));
    }
      where
        stays : (p : Place) → (thread_of s u.0).place ≡ p → at ≡ None → BelongsAt After (set_of w u.0) (eff_of s u.0) None p → BelongsAt After (set_of w u.0) (eff_of After u.0) (thread_of After u.0).body.bound (thread_of After u.0).place
        stays p stands to belongs = its_place None None is to (subst (λ q. BelongsAt After (set_of w u.0) (eff_of s u.0) None q) (sym stands) belongs)

        by : (p : Place) → (thread_of s u.0).place ≡ p → at ≡ unbound_put (eff_of s u.0) (Some b) (thread_of s u.0).place → BelongsAt After (set_of w u.0) (eff_of After u.0) (thread_of After u.0).body.bound (thread_of After u.0).place
        by (Running x) stands to =
            stays (Running x) stands (to ∙ ap (unbound_put (eff_of s u.0) (Some b)) stands) (own x.0 ∙ (runs_at w s k u.0 x (ap (is_running x.0) stands ∙ same_itself x.0)).0, λ y bound other. absurd (none-some y bound))
        by (Queued x key) stands to = queue (nat_le 100 (eff_of s u.0)) refl (to ∙ ap (unbound_put (eff_of s u.0) (Some b)) stands)
          where
            queue : (v : Bool) → nat_le 100 (eff_of s u.0) ≡ v → at ≡ (if v then Some (OnRealTime b) else None) → BelongsAt After (set_of w u.0) (eff_of After u.0) (thread_of After u.0).body.bound (thread_of After u.0).place
            queue true high h = its_place None (Some (OnRealTime b)) is h ((grind (arith, nat_tests)), refl, refl)
            queue false low h = stays (Queued x key) stands h (own x.0 ∙ (queued_at w s k u.0 x (ap (is_queued x.0) stands ∙ same_itself x.0)).0, inl (refl, (grind (arith, nat_tests))))
        by (RealTime q key) stands to =
            let home : BelongsAt s (set_of w u.0) (eff_of s u.0) (thread_of s u.0).body.bound (RealTime q key) = subst (λ p. BelongsAt s (set_of w u.0) (eff_of s u.0) (thread_of s u.0).body.bound p) stands (k.homes u.0).place in
            absurd (none-some b (sym home.1 ∙ was))
        by (Waiting l side key) stands to = stays (Waiting l side key) stands (to ∙ ap (unbound_put (eff_of s u.0) (Some b)) stands) tt
        by (Asleep j key) stands to = stays (Asleep j key) stands (to ∙ ap (unbound_put (eff_of s u.0) (Some b)) stands) tt
        by (Napping x due) stands to = stays (Napping x due) stands (to ∙ ap (unbound_put (eff_of s u.0) (Some b)) stands) tt
        by Ended stands to = stays Ended stands (to ∙ ap (unbound_put (eff_of s u.0) (Some b)) stands) tt

    its_home : ((x : CpuId) → (thread_of s u.0).place ≡ Running x → x.0 < length s.cpus) → (o : Option CpuId) → d ≡ o → Belongs w After u.0
    its_home there (Some f) is = bound_home f is there
    its_home there None is = let old = unbindable w s t.0 u.0 at (subst (λ y. bind_answer.Changed at ≡ bind_to w s t.0 u.0 y) is cause.1) in free_home old.0 is old.1

    pub bound_belongs : ((x : CpuId) → (thread_of s u.0).place ≡ Running x → x.0 < length s.cpus) → ThreadsBelong w (after w s n c (Bind t u d (bind_answer.Changed at)))
    bound_belongs there v = elim (cases_eq v u.0) [
      | inl is ↦ subst (Belongs w After) (sym is) (its_home there d refl)
      | inr other ↦ others v other
    ]
