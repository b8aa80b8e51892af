-- What the rule takes of homes and events: in every run, by the laws of the machine.
use Rattle.std.proofs.Common.{◌≡◌, ◌≢◌, ◌⊎◌, ℕ, ◌+◌, ◌<◌, ◌≤◌, Bool, true, false, List, [], ◌∷◌, ◌++◌, length, Some, refl, sym, ap, ◌∙◌, subst, inl, inr, ⊎_elim, arith, length-append}
use Rattle.std.specs.Prelude.{◌&&◌, ◌==◌, if◌then◌else◌}
use Rattle.std.proofs.lemmas.Bool.{cases_eq}
use Rattle.sd_types.specs.declared.numbers.CpuId.{CpuId}
use Rattle.sd_types.specs.declared.numbers.HomeId.{HomeId}
use Rattle.sd_types.specs.declared.numbers.HomeId.TheVariants as id
use Rattle.sd_types.specs.declared.events.Entry.{Entry}
use Rattle.sd_types.specs.declared.works.Work.{Work}
use Rattle.sd_types.specs.Events.{ticks}
use Rattle.sd_state.specs.declared.states.State.{State}
use Rattle.sd_state.specs.declared.states.ThreadState.{ThreadState}
use Rattle.sd_state.specs.Opening.{opening}
use Rattle.sd_state.specs.States.{cpu_of, thread_of}
use Rattle.sd_machine.specs.Events.{after, next}
use Rattle.sd_machine.specs.Runs.{IsReached, IsRun, final}
use Rattle.sd_machine.proofs.RunLemmas.{IsRun-from, IsRunFrom-front, final-push, from-IsRun, last_number, last_step}
use Rattle.sd_machine.proofs.ShapeLemmas.{after_shape}
use Rattle.sd_invariants.proofs.Whole.{fit_reached, reached_whole}
use Rattle.sd_invariants.proofs.Counts.{rise_law}
use Rattle.sd_store.specs.declared.parts.Part.{Part}
use Rattle.sd_store.specs.declared.parts.Part.TheVariants as part
use Rattle.sd_store.specs.Parts.{IsAmong}
use Rattle.sd_step.specs.Touched.{after_parts}
use Rattle.sd_homes.specs.Numbers.{IsHomeOf}
use Rattle.sd_homes.specs.Standing.{home_of, look_of}
use Rattle.sd_homes.specs.declared.home.Home.{Home}
use Rattle.sd_homes.specs.Families.{home_id}
use Rattle.sd_hand.specs.Shown.{IsHome}
use Rattle.sd_footprint.specs.Changed.{ChangesOnly, HasHome, IsNamed, MovesWithin, SameActor}
use Rattle.sd_footprint.proofs.RanLast.{reached_changes}
use Rattle.sd_footprint.proofs.ThereLemmas.{known_reached, stands_there}
use Rattle.sd_footprint.proofs.TouchedThere.{parts_there}
use Rattle.sd_world.specs.Frames.{IsElsewhere}
use Rattle.sd_world.specs.Homes.{IsNumber, index_of}
use Rattle.sd_world.proofs.NumberLemmas.{index_below}
use Rattle.sd_world.proofs.OtherHomes.{other_home}
use Rattle.sd_shared_rule.specs.Places.{Stands, Touches, home_count, now, place_home, sizes}
use Rattle.sd_invariants.proofs.Ready.{maker_inside}

module _ (w : Work) where
  pub reached : (h : List Entry) → IsRun w h → IsReached w (length h) (now w h)
  reached h run = record { entries = h; run = run; many = refl; ends = refl }

  -- the run before its last entry
  pub run_before : (h : List Entry) (e : Entry) → IsRun w (h ++ e ∷ []) → IsRun w h
  run_before h e run = from-IsRun w h (IsRunFrom-front w (opening w) 0 h (e ∷ []) (IsRun-from w (h ++ e ∷ []) run))

  -- its last entry
  pub number_of : (h : List Entry) (e : Entry) → IsRun w (h ++ e ∷ []) → e.number ≡ length h
  number_of h e run = let z : e.number ≡ 0 + length h = last_number w (opening w) 0 h e (IsRun-from w (h ++ e ∷ []) run) in omega (arith, z)

  pub step_of : (h : List Entry) (e : Entry) → IsRun w (h ++ e ∷ []) → next w (now w h) e.cpu e.hints ≡ Some e.event
  step_of h e run = last_step w (opening w) 0 h e (IsRun-from w (h ++ e ∷ []) run)

  pub now_push : (h : List Entry) (e : Entry) → IsRun w (h ++ e ∷ []) → now w (h ++ e ∷ []) ≡ after w (now w h) (length h) e.cpu e.event
  now_push h e run = final-push w (opening w) h e ∙ ap (λ n. after w (final w (opening w) h) n e.cpu e.event) (number_of h e run)

  changes : (h : List Entry) (e : Entry) → IsRun w (h ++ e ∷ []) → ChangesOnly (after_parts w (now w h) e.cpu e.event) (now w h) (now w (h ++ e ∷ []))
  changes h e run =
      subst (ChangesOnly (after_parts w (now w h) e.cpu e.event) (now w h)) (sym (now_push h e run))
      (reached_changes w (length h) (now w h) e.cpu e.hints e.event (reached h (run_before h e run)) (step_of h e run))

  -- a home stands as it was, where the event touches none of its parts
  pub frame : (h : List Entry) (e : Entry) → IsRun w (h ++ e ∷ []) → (k : ℕ) (x : Home) → (Touches w (now w h) e.cpu e.event k → ⊥) → Stands w k h x → Stands w k (h ++ e ∷ []) x
  frame h e run k x apart stands = record {
    placed = stands.placed;
    shown =
        let many : length (h ++ e ∷ []) ≡ length h + 1 = length-append h (e ∷ []) in
        let parts = after_parts w (now w h) e.cpu e.event in
        let new = after w (now w h) (length h) e.cpu e.event in
        let only = reached_changes w (length h) (now w h) e.cpu e.hints e.event (reached h (run_before h e run)) (step_of h e run) in
        subst (λ n. IsHome n (now w (h ++ e ∷ [])) (look_of (now w (h ++ e ∷ []))) x) (sym many)
        (subst (λ s. IsHome (length h + 1) s (look_of s) x) (sym (now_push h e run))
        (other_home (length h) (now w h) new parts x (after_shape w (now w h) (length h) e.cpu e.event) only elsewhere stands.shown));
  }
    where
      elsewhere : IsElsewhere (now w h) (after_parts w (now w h) e.cpu e.event) x
      elsewhere p among there = apart (record { part = p; among = among; home = home_id x; there = there; index = stands.placed.index })

  -- a thread's home changes only from one that the event touches to one that it touches
  pub moves : (h : List Entry) (e : Entry) → IsRun w (h ++ e ∷ []) → (t : ℕ) → place_home w (now w h) t ≢ place_home w (now w (h ++ e ∷ [])) t
      → Touches w (now w h) e.cpu e.event (place_home w (now w h) t) × Touches w (now w h) e.cpu e.event (place_home w (now w (h ++ e ∷ [])) t)
  unfolding place_home
  moves h e run t apart = by ((changes h e run).threads t)
    where
      parts : List Part
      parts = after_parts w (now w h) e.cpu e.event

      s : State
      s = now w h

      new : State
      new = now w (h ++ e ∷ [])

      here : (j : HomeId) → HasHome (after_parts w (now w h) e.cpu e.event) j → Touches w (now w h) e.cpu e.event (index_of (sizes w) j)
      here j has = record { part = part.Home j; among = has; home = j; there = refl; index = refl }

      from : IsNamed (after_parts w (now w h) e.cpu e.event) t (thread_of (now w h) t) → Touches w (now w h) e.cpu e.event (index_of (sizes w) (home_of (thread_of (now w h) t)))
      from (inl thread) = record { part = part.Thread (record { 0 = t }); among = thread; home = home_of (thread_of (now w h) t); there = refl; index = refl }
      from (inr has) = here (home_of (thread_of (now w h) t)) has

      to : (home_of (thread_of (now w (h ++ e ∷ [])) t) ≡ home_of (thread_of (now w h) t)) ⊎ HasHome (after_parts w (now w h) e.cpu e.event) (home_of (thread_of (now w (h ++ e ∷ [])) t))
          → Touches w (now w h) e.cpu e.event (index_of (sizes w) (home_of (thread_of (now w (h ++ e ∷ [])) t)))
      to (inl same) = absurd (apart (ap (index_of (sizes w)) (sym same)))
      to (inr has) = here _ has

      by : (thread_of (now w (h ++ e ∷ [])) t ≡ thread_of (now w h) t) ⊎ MovesWithin (after_parts w (now w h) e.cpu e.event) t (thread_of (now w h) t) (thread_of (now w (h ++ e ∷ [])) t)
          → Touches w (now w h) e.cpu e.event (index_of (sizes w) (home_of (thread_of (now w h) t))) × Touches w (now w h) e.cpu e.event (index_of (sizes w) (home_of (thread_of (now w (h ++ e ∷ [])) t)))
      by (inl same) = absurd (apart (ap (λ (x : ThreadState). index_of (sizes w) (home_of x)) (sym same)))
      by (inr m) = (from m.named, to m.home)

  -- the homes of a state of a run are those of the workload
  number_from : (s : State) (k : HomeId) → length s.cpus ≡ w.cpus → length s.open_cpus ≡ length w.sets + 1 → IsHomeOf s k → IsNumber (sizes w) k
  number_from s (id.Cpu c) cpus sets is = subst (λ m. c.0 < m) cpus is
  number_from s (id.RealTime p) cpus sets is = subst (λ m. p.0 < m) sets is
  number_from s (id.Chain i) cpus sets is = is
  number_from s (id.Sleepers i) cpus sets is = is

  pub is_number : (h : List Entry) → IsRun w h → (k : HomeId) → IsHomeOf (now w h) k → IsNumber (sizes w) k
  is_number h run k is = let f = (fit_reached w (length h) (now w h) (reached h run)).fits in number_from (now w h) k f.cpus f.sets is

  pub place_number : (h : List Entry) → IsRun w h → (t : ℕ) → IsNumber (sizes w) (home_of (thread_of (now w h) t))
  place_number h run t = is_number h run (home_of (thread_of (now w h) t)) (stands_there w (now w h) (known_reached w (length h) (now w h) (reached h run)) t).home

  pub place_in : (h : List Entry) → IsRun w h → (t : ℕ) → place_home w (now w h) t < home_count w
  unfolding place_home
  place_in h run t = index_below (sizes w) (home_of (thread_of (now w h) t)) (place_number h run t)

  -- an event leaves the count and the duty of each other processor
  pub others : (h : List Entry) (e : Entry) → IsRun w (h ++ e ∷ []) → (d : ℕ) → d ≢ e.cpu.0
      → ((cpu_of (now w h) d).count ≡ (cpu_of (now w (h ++ e ∷ [])) d).count) × ((cpu_of (now w h) d).duty ≡ (cpu_of (now w (h ++ e ∷ [])) d).duty)
  others h e run d other = by ((changes h e run).actors d)
    where
      by : SameActor (cpu_of (now w h) d) (cpu_of (now w (h ++ e ∷ [])) d) ⊎ IsAmong (part.Actor (record { 0 = d })) (after_parts w (now w h) e.cpu e.event)
          → ((cpu_of (now w h) d).count ≡ (cpu_of (now w (h ++ e ∷ [])) d).count) × ((cpu_of (now w h) d).duty ≡ (cpu_of (now w (h ++ e ∷ [])) d).duty)
      by (inl same) = (sym same.0, sym same.1)
      by (inr among) =
          let step = step_of h e run in
          let inside = maker_inside w (now w h) e.cpu e.hints e.event step in
          let there = parts_there w (length h) (now w h) e.cpu e.hints (reached h (run_before h e run)) inside in
          absurd (other (ap (λ (c : CpuId). c.0) (there.touching e.event step (part.Actor (record { 0 = d })) among)))

  more : (b : Bool) (a n : ℕ) → a ≡ n + (if b then 1 else 0) → n ≤ a
  more true a n e = omega arith
  more false a n e = omega arith

  -- a count never falls
  pub rises : (h : List Entry) (e : Entry) → IsRun w (h ++ e ∷ []) → (d : ℕ) → (cpu_of (now w h) d).count ≤ (cpu_of (now w (h ++ e ∷ [])) d).count
  rises h e run d = ⊎_elim own other (cases_eq d e.cpu.0)
    where
      own : d ≡ e.cpu.0 → (cpu_of (now w h) d).count ≤ (cpu_of (now w (h ++ e ∷ [])) d).count
      own is =
          let step = step_of h e run in
          let inside : d < w.cpus = subst (λ c. c < w.cpus) (sym is) (maker_inside w (now w h) e.cpu e.hints e.event step) in
          let rise = rise_law w (length h) (now w h) e.cpu e.hints e.event (reached h (run_before h e run)) step d inside in
          subst (λ s. (cpu_of (now w h) d).count ≤ (cpu_of s d).count) (sym (now_push h e run)) (more ((e.cpu.0 == d) && ticks e.event) _ (cpu_of (now w h) d).count rise)

      other : d ≢ e.cpu.0 → (cpu_of (now w h) d).count ≤ (cpu_of (now w (h ++ e ∷ [])) d).count
      other apart = let same = (others h e run d apart).0 in omega (arith, same)

  pub count_within : (h : List Entry) → IsRun w h → (d : ℕ) → (cpu_of (now w h) d).count ≤ w.limit
  count_within h run d = (reached_whole w (length h) (now w h) (reached h run)).counts d
