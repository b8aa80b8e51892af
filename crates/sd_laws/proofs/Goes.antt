-- Threads that go to a place: by being made runnable, by leaving their processor, and by coming to one.
use Rattle.std.proofs.Common.{◌≡◌, ◌≢◌, ℕ, ◌<◌, Bool, true, false, ◌||◌, length, get_or, set, Option, Some, None, refl, sym, ap, ◌∙◌, subst, inl, inr, ◌⊎◌, arith}
use Rattle.std.specs.Prelude.{⊤, if◌then◌else◌, nat_lt, ◌==◌}
use Rattle.std.proofs.lemmas.Bool.{cases_eq, eqb-true, false≢true}
use Rattle.std.proofs.lemmas.Bool.Decides.{nat_tests}
use Rattle.std.proofs.lemmas.List.{length-set, get_or-set_same, get_or-set_other}
use Rattle.sd_basics.proofs.Numbers.{same_itself}
use Rattle.sd_types.specs.declared.numbers.CpuId.{CpuId}
use Rattle.sd_types.specs.declared.classes.ClassState.{ClassState}
use Rattle.sd_types.specs.declared.events.Put.{Put}
use Rattle.sd_types.specs.declared.events.Put.TheVariants.{Cpu, RealTime as OnRealTime}
use Rattle.sd_types.specs.declared.works.Work.{Work}
use Rattle.sd_state.specs.declared.states.Place.{Place}
use Rattle.sd_state.specs.declared.states.Place.TheVariants.{Running, Queued}
use Rattle.sd_state.specs.declared.states.CpuState.{CpuState}
use Rattle.sd_state.specs.declared.states.ThreadState.{ThreadState}
use Rattle.sd_state.specs.declared.states.State.{State}
use Rattle.sd_state.specs.States.{no_thread, no_cpu, thread_of, cpu_of, with_thread, with_cpu, is_running, is_queued, eff_of}
use Rattle.sd_machine.specs.Threads.{runner, priority_of}
use Rattle.sd_machine.specs.Bodies.{woken_class, departed, arrived}
use Rattle.sd_machine.specs.Changes.{with_place, back_key, set_class, unmarked, clear_marks, marked, set_mark, runs_below, mark_over, run_on, leave, place_put, cpu_put, put}
use Rattle.sd_machine.specs.Dispatching.{dispatched, stolen, sent_away}
use Rattle.sd_machine.specs.Sleeping.{woken}
use Rattle.sd_state.specs.Invariants.{is_marked}
use Rattle.sd_state.proofs.KeyLemmas.{IsPut}
use Rattle.sd_machine.proofs.Moves.{IsSame, put_cases}
use Rattle.sd_frames.proofs.Parts.{put_item, same_item, put_same, same_put, put_put}
use Rattle.sd_frames.proofs.Words.{of_threads}
use Rattle.sd_frames.proofs.CpuWords.{of_cpus}
use Rattle.sd_frames.proofs.PlaceTable.{place_part}
use Rattle.sd_frames.proofs.HoldTable.{bound_part}
use Rattle.sd_invariants.proofs.OpenLemmas.{place_part as set_part}
use Rattle.sd_frames.proofs.Found.{runner_found}
use Rattle.sd_frames.proofs.Searches.{nobody_runs}
use Rattle.sd_laws.proofs.Alike.{Weight, weight_part, heft, marks_part, IsBusy, Keeps, busy_on, Calm, Alike, Weighs, marked_is, mark_over_alike, set_class_weighs}

-- the processors whose marks stay: all, or all but one
abbrev pub All : ℕ → Type 0
All d = ⊤

abbrev pub Others : ℕ → ℕ → Type 0
Others c d = d ≢ c

-- thread t goes to a place, with a priority made of x; the marks of processors of P stay, and others are set where a thread runs
pub record Goes (P : ℕ → Type 0) (s r : State) (t : ℕ) (place : Place) (x : Weight) : Type 0 where
  pub many : length r.threads ≡ length s.threads
  pub places : IsPut t place (of_threads place_part s) (of_threads place_part r)
  pub bounds : IsSame (of_threads bound_part s) (of_threads bound_part r)
  pub sets : IsSame (of_cpus set_part s) (of_cpus set_part r)
  pub weights : IsPut t x (of_threads weight_part s) (of_threads weight_part r)
  pub kernel : (d : ℕ) → P d → (cpu_of s d).kernel ≡ true → (cpu_of r d).kernel ≡ true
  pub marks : (d : ℕ) → P d → is_marked (cpu_of s d) ≡ true → is_marked (cpu_of r d) ≡ true
  pub fresh : (d : ℕ) → is_marked (cpu_of r d) ≡ true → (P d × (is_marked (cpu_of s d) ≡ true)) ⊎ IsBusy r d

-- at most one thread runs on each processor
abbrev pub Single : State → Type 0
Single s = (d a b : ℕ) → is_running d (thread_of s a).place ≡ true → is_running d (thread_of s b).place ≡ true → a ≡ b

-- and where one runs with a smaller priority than that of the thread that comes to its queue, the processor is marked
pub record Puts (P : ℕ → Type 0) (s r : State) (t : ℕ) (place : Place) (x : Weight) : Type 0 where
  pub goes : Goes P s r t place x
  pub called : Single s → (d v : ℕ) → d < length s.cpus → is_queued d place ≡ true → is_running d (thread_of r v).place ≡ true → eff_of r v < heft x → is_marked (cpu_of r d) ≡ true

pub single_back : (s r : State) → Keeps s r → Single s → Single r
single_back s r k one d a b ra rb = one d a b (ap (is_running d) (sym (k.places a)) ∙ ra) (ap (is_running d) (sym (k.places b)) ∙ rb)

module _ (P : ℕ → Type 0) where
  after_same : (s r q : State) (t : ℕ) (place : Place) (x : Weight) → Keeps s r → IsSame (of_cpus marks_part s) (of_cpus marks_part r) → IsPut t x (of_threads weight_part s) (of_threads weight_part q) → Goes P r q t place x → Goes P s q t place x
  after_same s r q t place x k same weights b = record {
    many = b.many ∙ k.many;
    places = same_put t place k.places b.places;
    bounds = λ u. b.bounds u ∙ k.bounds u;
    sets = λ u. b.sets u ∙ k.sets u;
    weights = weights;
    kernel = λ d p e. b.kernel d p (ap (λ (y : Bool × Bool). y.1) (same d) ∙ e);
    marks = λ d p e. b.marks d p (ap (λ (y : Bool × Bool). y.0 || y.1) (same d) ∙ e);
    fresh = λ d e. elim (b.fresh d e) [
      | inl was ↦ inl (was.0, ap (λ (y : Bool × Bool). y.0 || y.1) (sym (same d)) ∙ was.1)
      | inr busy ↦ inr busy
    ];
  }

  pub calm_goes : (s r q : State) (t : ℕ) (place : Place) (x : Weight) → Calm s r → Goes P r q t place x → Goes P s q t place x
  calm_goes s r q t place x a b = after_same s r q t place x a.keeps a.marks (same_put t x a.weights b.weights) b

  pub weighs_goes : (s r q : State) (t : ℕ) (place : Place) (y x : Weight) → Weighs s r t y → Goes P r q t place x → Goes P s q t place x
  weighs_goes s r q t place y x a b = after_same s r q t place x a.keeps a.marks (put_put t y x a.weights b.weights) b

  pub goes_alike : (s r q : State) (t : ℕ) (place : Place) (x : Weight) → Goes P s r t place x → Alike r q → Goes P s q t place x
  goes_alike s r q t place x a b = record {
    many = b.keeps.many ∙ a.many;
    places = put_same t place a.places b.keeps.places;
    bounds = λ u. b.keeps.bounds u ∙ a.bounds u;
    sets = λ u. b.keeps.sets u ∙ a.sets u;
    weights = put_same t x a.weights b.weights;
    kernel = λ d p e. b.marks.kernel d (a.kernel d p e);
    marks = λ d p e. b.marks.marks d (a.marks d p e);
    fresh = λ d e. elim (b.marks.fresh d e) [
      | inl was ↦ elim (a.fresh d was) [ inl old ↦ inl old | inr busy ↦ inr (busy_on r q d b.keeps busy) ]
      | inr busy ↦ inr (busy_on r q d b.keeps busy)
    ];
  }

  pub goes_to : (s r : State) (t : ℕ) (place : Place) (x y : Weight) → Goes P s r t place x → x ≡ y → Goes P s r t place y
  goes_to s r t place x y a is = subst (λ z. Goes P s r t place z) is a

  pub calm_puts : (s r q : State) (t : ℕ) (place : Place) (x : Weight) → Calm s r → Puts P r q t place x → Puts P s q t place x
  calm_puts s r q t place x a b = record {
    goes = calm_goes s r q t place x a b.goes;
    called = λ one d v inside queued runs less. let many = a.keeps.cpus in b.called (single_back s r a.keeps one) d v (omega (arith, many, inside)) queued runs less;
  }

  pub weighs_puts : (s r q : State) (t : ℕ) (place : Place) (y x : Weight) → Weighs s r t y → Puts P r q t place x → Puts P s q t place x
  weighs_puts s r q t place y x a b = record {
    goes = weighs_goes s r q t place y x a b.goes;
    called = λ one d v inside queued runs less. let many = a.keeps.cpus in b.called (single_back s r a.keeps one) d v (omega (arith, many, inside)) queued runs less;
  }

  pub puts_alike : (s r q : State) (t : ℕ) (place : Place) (x : Weight) → Puts P s r t place x → Alike r q → Puts P s q t place x
  puts_alike s r q t place x a b = record {
    goes = goes_alike s r q t place x a.goes b;
    called = λ one d v inside queued runs less.
        let same : eff_of q v ≡ eff_of r v = ap heft (b.weights v) in
        b.marks.marks d (a.called one d v inside queued (ap (is_running d) (sym (b.keeps.places v)) ∙ runs) (omega (arith, same, less)));
  }

  pub puts_to : (s r : State) (t : ℕ) (place : Place) (x y : Weight) → Puts P s r t place x → x ≡ y → Puts P s r t place y
  puts_to s r t place x y a is = subst (λ z. Puts P s r t place z) is a

-- Words.

-- a processor on which a thread of a smaller priority runs is marked
over_called : (s : State) (x m v : ℕ) → Single s → x < length s.cpus → is_running x (thread_of s v).place ≡ true → eff_of s v < m → is_marked (cpu_of (mark_over s x m) x) ≡ true
unfolding mark_over set_mark
over_called s x m v one inside runs less = by (runner s x) refl
  where
    now : is_marked (cpu_of (with_cpu s x (marked m (cpu_of s x))) x) ≡ true
    now = ap is_marked (get_or-set_same s.cpus x (marked m (cpu_of s x)) no_cpu inside) ∙ marked_is m (cpu_of s x)

    by : (o : Option ℕ) → runner s x ≡ o → is_marked (cpu_of (if runs_below m (priority_of s o) then with_cpu s x (marked m (cpu_of s x)) else s) x) ≡ true
    by None e = absurd (false≢true (sym (nobody_runs s x e v) ∙ runs))
    by (Some r) e =
        let is : r ≡ v = one x r v (runner_found s x r e).stands runs in
        let same : eff_of s r ≡ eff_of s v = ap (eff_of s) is in
        let test : nat_lt (eff_of s r) m ≡ true = (let small : eff_of s r < m = omega (arith, same, less) in grind (arith, nat_tests)) in
        rw test now

put_rests : (w : Work) (n t : ℕ) (at : Put) (d : ℕ) → is_running d (place_put w n t at) ≡ false
put_rests w n t (Cpu x) d = refl
put_rests w n t (OnRealTime x) d = refl

put_queued : (w : Work) (n t : ℕ) (at : Put) (d : ℕ) → is_queued d (place_put w n t at) ≡ true → (cpu_put at).0 ≡ d
put_queued w n t (Cpu x) d e = eqb-true x.0 d e
put_queued w n t (OnRealTime x) d e = cc

pub put_puts : (w : Work) (s : State) (n t : ℕ) (at : Put) → t < length s.threads → Puts All s (put w s n t at) t (place_put w n t at) (weight_part (thread_of s t))
unfolding put
put_puts w s n t at inside = record {
  goes = goes_alike All s q r t place (weight_part (thread_of s t)) moved alike;
  called = λ one d v here queued runs less.
      let is : (cpu_put at).0 ≡ d = put_queued w n t at d queued in
      let same : eff_of r v ≡ eff_of q v = ap heft (alike.weights v) in
      subst (λ i. is_marked (cpu_of r i) ≡ true) is
      (over_called q (cpu_put at).0 (eff_of s t) v (single_on one) (omega (arith, is, here))
      (subst (λ i. is_running i (thread_of q v).place ≡ true) (sym is) (ap (is_running d) (sym (alike.keeps.places v)) ∙ runs)) (omega (arith, same, less)));
}
  where
    place : Place
    place = place_put w n t at

    q : State
    q = with_place s t place

    r : State
    r = mark_over q (cpu_put at).0 (eff_of s t)

    alike : Alike q r
    alike = mark_over_alike q (cpu_put at).0 (eff_of s t)

    item : ThreadState
    item = record (thread_of s t) { place = place }

    moved : Goes All s q t place (weight_part (thread_of s t))
    moved = record {
      many = length-set s.threads t item;
      places = put_item place_part s.threads no_thread t item inside;
      bounds = same_item bound_part s.threads no_thread t item refl;
      sets = λ u. refl;
      weights = put_item weight_part s.threads no_thread t item inside;
      kernel = λ d p e. e;
      marks = λ d p e. e;
      fresh = λ d e. inl (tt, e);
    }

    back : (d a : ℕ) → is_running d (thread_of q a).place ≡ true → is_running d (thread_of s a).place ≡ true
    back d a runs = elim (put_cases t place _ _ moved.places a) [
      | inl me ↦ absurd (false≢true (sym (put_rests w n t at d) ∙ ap (is_running d) (sym me.1) ∙ runs))
      | inr other ↦ ap (is_running d) (sym other.1) ∙ runs
    ]

    single_on : Single s → Single q
    single_on one d a b ra rb = one d a b (back d a ra) (back d b rb)

pub woken_puts : (w : Work) (s : State) (n t : ℕ) (at : Put) → t < length s.threads → Puts All s (woken w s n t at) t (place_put w n t at) (woken_class w (thread_of s t).body.class, (thread_of s t).body.willed.items)
unfolding woken set_class
woken_puts w s n t at inside =
    let class : ClassState = woken_class w (thread_of s t).body.class in
    let before : Weighs s (set_class s t class) t (class, (thread_of s t).body.willed.items) = set_class_weighs s t class inside in
    let many = before.keeps.many in
    puts_to All s _ t _ _ _
    (weighs_puts All s (set_class s t class) _ t _ _ _ before (put_puts w (set_class s t class) n t at (omega (arith, many, inside))))
    before.weights.at

leave_cpus : (s : State) (c t : ℕ) (place : Place) → length (leave s c t place).cpus ≡ length s.cpus
unfolding leave
leave_cpus s c t place = length-set s.cpus c (unmarked (cpu_of s c))

pub leave_goes : (s : State) (c t : ℕ) (place : Place) → t < length s.threads → c < length s.cpus → Goes (Others c) s (leave s c t place) t place (weight_part (thread_of s t))
unfolding leave
leave_goes s c t place inside here = record {
  many = length-set s.threads t item;
  places = put_item place_part s.threads no_thread t item inside;
  bounds = same_item bound_part s.threads no_thread t item refl;
  sets = same_item set_part s.cpus no_cpu c (unmarked (cpu_of s c)) refl;
  weights = put_item weight_part s.threads no_thread t item inside;
  kernel = λ d other e. ap (λ (x : CpuState). x.kernel) (get_or-set_other s.cpus c d (unmarked (cpu_of s c)) no_cpu other) ∙ e;
  marks = λ d other e. ap is_marked (get_or-set_other s.cpus c d (unmarked (cpu_of s c)) no_cpu other) ∙ e;
  fresh = λ d e. elim (cases_eq d c) [
    | inl is ↦ absurd (false≢true (sym (ap is_marked (ap (λ i. get_or (set s.cpus c (unmarked (cpu_of s c))) i no_cpu) is ∙ get_or-set_same s.cpus c (unmarked (cpu_of s c)) no_cpu here)) ∙ e))
    | inr other ↦ inl (other, ap is_marked (sym (get_or-set_other s.cpus c d (unmarked (cpu_of s c)) no_cpu other)) ∙ e)
  ];
}
  where
    item : ThreadState
    item = record { body = departed (cpu_of s c).count (thread_of s t).body; place = place }

-- a thread comes to run on a processor
pub dispatched_goes : (s : State) (c : CpuId) (t : ℕ) → t < length s.threads → c.0 < length s.cpus → Goes (Others c.0) s (dispatched s c t) t (Running c) (weight_part (thread_of s t))
unfolding dispatched clear_marks run_on
dispatched_goes s c t inside here = record {
  many = length-set s.threads t item;
  places = put_item place_part s.threads no_thread t item inside;
  bounds = same_item bound_part s.threads no_thread t item refl;
  sets = same_item set_part s.cpus no_cpu c.0 (unmarked (cpu_of s c.0)) refl;
  weights = put_item weight_part s.threads no_thread t item inside;
  kernel = λ d other e. ap (λ (x : CpuState). x.kernel) (get_or-set_other s.cpus c.0 d (unmarked (cpu_of s c.0)) no_cpu other) ∙ e;
  marks = λ d other e. ap is_marked (get_or-set_other s.cpus c.0 d (unmarked (cpu_of s c.0)) no_cpu other) ∙ e;
  fresh = λ d e. elim (cases_eq d c.0) [
    | inl is ↦ absurd (false≢true (sym (ap is_marked (ap (λ i. get_or (set s.cpus c.0 (unmarked (cpu_of s c.0))) i no_cpu) is ∙ get_or-set_same s.cpus c.0 (unmarked (cpu_of s c.0)) no_cpu here)) ∙ e))
    | inr other ↦ inl (other, ap is_marked (sym (get_or-set_other s.cpus c.0 d (unmarked (cpu_of s c.0)) no_cpu other)) ∙ e)
  ];
}
  where
    item : ThreadState
    item = record { body = arrived c (thread_of s t).body; place = Running c }

pub stolen_goes : (s : State) (c : CpuId) (t : ℕ) → t < length s.threads → Goes (Others c.0) s (stolen s c t) t (Running c) (weight_part (thread_of s t))
unfolding stolen run_on
stolen_goes s c t inside = record {
  many = length-set s.threads t item;
  places = moves;
  bounds = same_item bound_part s.threads no_thread t item refl;
  sets = λ u. refl;
  weights = put_item weight_part s.threads no_thread t item inside;
  kernel = λ d other e. e;
  marks = λ d other e. e;
  fresh = λ d e. elim (cases_eq d c.0) [
    | inl is ↦ inr (record { who = t; runs = ap (is_running d) moves.at ∙ subst (λ i. (c.0 == i) ≡ true) (sym is) (same_itself c.0) })
    | inr other ↦ inl (other, e)
  ];
}
  where
    item : ThreadState
    item = record { body = arrived c (thread_of s t).body; place = Running c }

    moves : IsPut t (Running c) (of_threads place_part s) (of_threads place_part (with_thread s t item))
    moves = put_item place_part s.threads no_thread t item inside

-- a thread that is bound elsewhere goes to the queue of its processor
pub sent_away_puts : (s : State) (n : ℕ) (c : CpuId) (t : ℕ) (d : CpuId) → t < length s.threads → c.0 < length s.cpus → Puts (Others c.0) s (sent_away s n c t d) t (Queued d (back_key n)) (weight_part (thread_of s t))
unfolding sent_away
sent_away_puts s n c t d inside here = record {
  goes = goes_alike (Others c.0) s q r t (Queued d (back_key n)) (weight_part (thread_of s t)) moved alike;
  called = λ one x v x_in queued runs less.
      let is : d.0 ≡ x = eqb-true d.0 x queued in
      let same : eff_of r v ≡ eff_of q v = ap heft (alike.weights v) in
      let many : length q.cpus ≡ length s.cpus = leave_cpus s c.0 t (Queued d (back_key n)) in
      subst (λ i. is_marked (cpu_of r i) ≡ true) is
      (over_called q d.0 (eff_of s t) v (single_on one) (omega (arith, is, x_in, many))
      (subst (λ i. is_running i (thread_of q v).place ≡ true) (sym is) (ap (is_running x) (sym (alike.keeps.places v)) ∙ runs)) (omega (arith, same, less)));
}
  where
    q : State
    q = leave s c.0 t (Queued d (back_key n))

    r : State
    r = mark_over q d.0 (eff_of s t)

    alike : Alike q r
    alike = mark_over_alike q d.0 (eff_of s t)

    moved : Goes (Others c.0) s q t (Queued d (back_key n)) (weight_part (thread_of s t))
    moved = leave_goes s c.0 t (Queued d (back_key n)) inside here

    back : (x a : ℕ) → is_running x (thread_of q a).place ≡ true → is_running x (thread_of s a).place ≡ true
    back x a runs = elim (put_cases t (Queued d (back_key n)) _ _ moved.places a) [
      | inl me ↦ absurd (false≢true (ap (is_running x) (sym me.1) ∙ runs))
      | inr other ↦ ap (is_running x) (sym other.1) ∙ runs
    ]

    single_on : Single s → Single q
    single_on one x a b ra rb = one x a b (back x a ra) (back x b rb)
