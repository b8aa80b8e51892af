-- What a run says of the ticks of a thread: it begins and ceases to run by entries of its processor, whose count rises by the
-- ticks that are the thread's in the accounts.
use Rattle.std.proofs.Common.{◌≡◌, ◌≢◌, ℕ, zero, suc, ◌+◌, ◌-◌, ◌<◌, ◌≤◌, ◌⊎◌, true, false, cond, inl, inr, List, [], ◌∷◌, ◌++◌, length, take, drop, Option, Some, None, refl, sym, ap, subst, ◌∙◌, arith, add-one}
use Rattle.std.specs.Prelude.{◌&&◌, ◌==◌, sum_by, slice_get, option_map, if◌then◌else◌}
use Rattle.std.specs.List.{flat_map, range_with_len}
use Rattle.std.proofs.lemmas.Bool.{cases_eq, cases_lt, cases_Bool, false≢true}
use Rattle.std.proofs.lemmas.Bool.Decides.{nat_tests}
use Rattle.std.proofs.lemmas.List.{drop_all, length-take-le}
use Rattle.std.proofs.Math.Seq.{take-length}
use Rattle.std.proofs.lemmas.Option.{slice_get-map, slice_get-get_or}
use Rattle.std.proofs.lemmas.List.Concat.{flat_map-append}
use Rattle.std.proofs.lemmas.List.Sums.{sum_by-cons}
use Rattle.sd_basics.proofs.Ranges.{flat_range_same}
use Rattle.sd_basics.proofs.Truths.{and_never}
use Rattle.sd_types.specs.declared.numbers.CpuId.{CpuId}
use Rattle.sd_types.specs.declared.numbers.LockId.{LockId}
use Rattle.sd_types.specs.declared.numbers.ThreadId.{ThreadId}
use Rattle.sd_types.specs.declared.events.Entry.{Entry}
use Rattle.sd_types.specs.declared.events.Event.{Event}
use Rattle.sd_types.specs.declared.events.Event.TheVariants.{Tick, Spin, Idle}
use Rattle.sd_types.specs.declared.works.Work.{Work}
use Rattle.sd_types.specs.Events.{ticks}
use Rattle.sd_state.specs.declared.states.Place.{Place}
use Rattle.sd_state.specs.declared.states.Place.TheVariants as place
use Rattle.sd_state.specs.declared.states.State.{State}
use Rattle.sd_state.specs.Accounts.{is_tick_of, thread_ticks}
use Rattle.sd_state.specs.Opening.{opening}
use Rattle.sd_state.specs.States.{no_thread, thread_of, cpu_of, is_running}
use Rattle.sd_machine.specs.Events.{after}
use Rattle.sd_machine.specs.Runs.{final, state_at, IsComplete, IsRun}
use Rattle.sd_machine.specs.Threads.{runner}
use Rattle.sd_machine.proofs.RunLemmas.{final-nil}
use Rattle.sd_state.specs.Invariants.{OneRuns}
use Rattle.sd_state.proofs.Openings.{opening_runs_none}
use Rattle.sd_frames.specs.Causes.{IsCause}
use Rattle.sd_invariants.proofs.AgreedAfter.{IsReady}
use Rattle.sd_frames.proofs.Found.{runner_found}
use Rattle.sd_invariants.proofs.Movers.{mover_there}
use Rattle.sd_frames.proofs.PlaceTable.{after_steps, step_needs}
use Rattle.sd_frames.proofs.Searches.{nobody_runs}
use Rattle.sd_invariants.proofs.Ready.{kept_reached, maker_inside, ready_cause, reached_ready}
use Rattle.sd_invariants.proofs.RunningLemmas.{opening_one, one_kept}
use Rattle.sd_invariants.proofs.Complete.{complete_at_limit}
use Rattle.sd_invariants.proofs.Counts.{rise_law}
use Rattle.sd_stretches.specs.declared.changes.Happening.{Happening}
use Rattle.sd_stretches.specs.declared.changes.Onset.{Onset}
use Rattle.sd_stretches.specs.declared.histories.History.{History}
use Rattle.sd_stretches.specs.declared.sights.Doing.TheVariants as does
use Rattle.sd_stretches.specs.declared.sights.Sight.{Sight}
use Rattle.sd_stretches.specs.declared.spin_pieces.Spell.{Spell}
use Rattle.sd_stretches.specs.declared.spin_pieces.Track.TheVariants as track
use Rattle.sd_stretches.specs.Sights.{doing_of, same_doing, sight_of, sights_of}
use Rattle.sd_stretches.specs.Changes.{happening_of, happenings_of, onset_if}
use Rattle.sd_stretches.specs.Histories.{entry_before, moment, happenings_in, over, sights_before, tick_by, onsets_in, IsHistory}
use Rattle.sd_stretches.specs.Rows.{own_onsets, stretches, stretches_of}
use Rattle.sd_stretches.specs.SpinPieces.{cut_all, pieces, spell_by, spells_on}
use Rattle.sd_stretches.proofs.ExactLemmas.{filter_flat, same_self, there, own_between, seen_inside}
use Rattle.sd_statistics.proofs.Local.{others_keep}
use Rattle.sd_statistics.proofs.Steps.{made_by, many, reached, Made as Entered}
use Rattle.sd_statistics.specs.Accounted.{RunningTicksAreAccounted}
use Rattle.sd_statistics.proofs.DeedLemmas.{drop_get}
use Rattle.sd_statistics.proofs.Sums.{is_on, run_share, shares, onset_at, all_run, Made, Spins, Stands}

-- ---- places

-- a thread that runs on a processor does so in its place
runs_so : (p : Place) (c : CpuId) → doing_of p ≡ does.Running c → is_running c.0 p ≡ true
runs_so (place.Running d) c h = let e : d.0 ≡ c.0 = cc in grind (arith, nat_tests, e)
runs_so p c h = cc

so_runs : (p : Place) (c : CpuId) → is_running c.0 p ≡ true → doing_of p ≡ does.Running c
so_runs (place.Running d) c h = let e : d.0 ≡ c.0 = grind (arith, nat_tests) in ap (λ n. does.Running (record { 0 = n })) e
so_runs p c h = cc

stands_so : (p : Place) → ((c : CpuId) × (doing_of p ≡ does.Running c)) ⊎ (is_on (doing_of p) ≡ false)
stands_so (place.Running d) = inl (d, refl)
stands_so p = inr refl

-- it runs on one processor
one_place : (p : Place) (c d : ℕ) → is_running c p ≡ true → is_running d p ≡ true → c ≡ d
one_place (place.Running e) c d a b = grind (arith, nat_tests)
one_place p c d a b = cc

-- ---- whose tick an event is

abbrev charged : ℕ → Event → ℕ
charged t e = if is_tick_of t e then 1 else 0

-- a tick that processor e takes for the thread u that runs there, where thread t runs on processor c
tick_by_runner : (s : State) (t c e u : ℕ) → OneRuns s → t < length s.threads → is_running c (thread_of s t).place ≡ true → runner s e ≡ Some u
    → ((e == c) && true) ≡ (u == t)
tick_by_runner s t c e u one inside on runs = elim (cases_eq e c) [
  | inl same ↦
      let found = runner_found s e u runs in
      let is : u ≡ t = one u t c found.inside inside (ap (λ d. is_running d (thread_of s u).place) (sym same) ∙ found.stands) on in
      let left : (e == c) ≡ true = grind (arith, nat_tests, same) in
      let right : (u == t) ≡ true = grind (arith, nat_tests, is) in
      ap (λ b. b && true) left ∙ sym right
  | inr other ↦
      let left : (e == c) ≡ false = grind (arith, nat_tests, other) in
      ap (λ b. b && true) left ∙ sym (elim (cases_eq u t) as (λ _. (u == t) ≡ false) [
        | inl is ↦
            let found = runner_found s e u runs in
            absurd (other (one_place (thread_of s t).place e c (ap (λ x. is_running e (thread_of s x).place) (sym is) ∙ found.stands) on))
        | inr apart ↦ grind (arith, nat_tests, apart)
      ])
]

idle_elsewhere : (s : State) (t c e : ℕ) → t < length s.threads → is_running c (thread_of s t).place ≡ true → runner s e ≡ None → ((e == c) && true) ≡ false
idle_elsewhere s t c e inside on nobody = elim (cases_eq e c) [
  | inl same ↦ absurd (false≢true (sym (nobody_runs s e nobody t) ∙ ap (λ d. is_running d (thread_of s t).place) same ∙ on))
  | inr other ↦ let left : (e == c) ≡ false = grind (arith, nat_tests, other) in ap (λ b. b && true) left
]

-- where thread t runs on processor c, the ticks that c takes are those of t
own_ticks : (w : Work) (s : State) (t c : ℕ) (e : CpuId) (ev : Event) → OneRuns s → t < length s.threads → is_running c (thread_of s t).place ≡ true → IsCause w s e.0 ev
    → ((e.0 == c) && ticks ev) ≡ is_tick_of t ev
own_ticks w s t c e (Tick u) one inside on cause = tick_by_runner s t c e.0 u.0 one inside on cause.0.1.runs
own_ticks w s t c e (Spin u l) one inside on cause = tick_by_runner s t c e.0 u.0 one inside on cause.0.1.acts.runs
own_ticks w s t c e Idle one inside on cause = idle_elsewhere s t c e.0 inside on cause.0.idle.nobody
own_ticks w s t c e ev one inside on cause = and_never (e.0 == c)

runs_apart : (s : State) (t e u : ℕ) → is_on (doing_of (thread_of s t).place) ≡ false → runner s e ≡ Some u → (u == t) ≡ false
runs_apart s t e u off runs = elim (cases_eq u t) [
  | inl is ↦
      let found = runner_found s e u runs in
      let on : is_running e (thread_of s t).place ≡ true = ap (λ x. is_running e (thread_of s x).place) (sym is) ∙ found.stands in
      absurd (false≢true (sym off ∙ ap is_on (so_runs (thread_of s t).place (record { 0 = e }) on)))
  | inr apart ↦ grind (arith, nat_tests, apart)
]

-- where it does not run, it has no tick
no_ticks : (w : Work) (s : State) (t : ℕ) (e : CpuId) (ev : Event) → is_on (doing_of (thread_of s t).place) ≡ false → IsCause w s e.0 ev → is_tick_of t ev ≡ false
no_ticks w s t e (Tick u) off cause = runs_apart s t e.0 u.0 off cause.0.1.runs
no_ticks w s t e (Spin u l) off cause = runs_apart s t e.0 u.0 off cause.0.1.acts.runs
no_ticks w s t e ev off cause = refl

-- ---- the run

module _ (w : Work) (es : List Entry) (t : ℕ) (run : IsRun w es) (here : t < length w.threads) where
  abbrev view : ℕ → Sight
  view k = sight_of (thread_of (state_at w es k) t)

  abbrev ticked : ℕ → ℕ
  ticked k = tick_by (state_at w es k) (entry_before es k)

  abbrev count : CpuId → ℕ → ℕ
  count c k = (cpu_of (state_at w es k) c.0).count

  abbrev charge_of : Option Entry → ℕ
  charge_of None = 0
  charge_of (Some e) = charged t e.event

  abbrev charge : ℕ → ℕ
  charge k = charge_of (entry_before es k)

  abbrev spin_of : State → Option Entry → List Spell
  spin_of s o = flat_map (λ x. spell_by (track.Thread t) x x.event) (happenings_of s o)

  abbrev spin : ℕ → List Spell
  spin k = spin_of (state_at w es k) (entry_before es k)

  -- none runs on a processor that is not there
  none_beyond : (c : ℕ) → w.cpus ≤ c → (k : ℕ) → k ≤ length es → is_running c (thread_of (state_at w es k) t).place ≡ false
  none_beyond c past zero inside = ap (λ (s : State). is_running c (thread_of s t).place) (final-nil w (opening w)) ∙ opening_runs_none w t c
  none_beyond c past (suc k) inside =
      let m = made_by w es run k (omega (arith, inside)) in
      let e = m.entry in
      let s = state_at w es k in
      let ready = reached_ready w (length (take k es)) s (reached w es run k) in
      let maker = maker_inside w s e.cpu e.hints e.event m.step in
      ap (λ (r : State). is_running c (thread_of r t).place) m.state
      ∙ others_keep w s e.number e.cpu e.event ready (ready_cause w s e.cpu e.hints e.event ready m.step) t c (λ is. omega (arith, is, maker, past))
      ∙ none_beyond c past k (omega (arith, inside))

  cpu_there : (k : ℕ) → k ≤ length es → (c : CpuId) → (view k).doing ≡ does.Running c → c.0 < w.cpus
  cpu_there k inside c on = elim (cases_Bool (is_running c.0 (thread_of (state_at w es k) t).place)) [
    | inl runs ↦ by_test (nat_below c.0) runs
    | inr off ↦ absurd (false≢true (sym off ∙ runs_so (thread_of (state_at w es k) t).place c on))
  ]
    where
      nat_below : (n : ℕ) → (n < w.cpus) ⊎ (w.cpus ≤ n)
      nat_below n = cases_lt n w.cpus

      by_test : (c.0 < w.cpus) ⊎ (w.cpus ≤ c.0) → is_running c.0 (thread_of (state_at w es k) t).place ≡ true → c.0 < w.cpus
      by_test (inl less) runs = less
      by_test (inr past) runs = absurd (false≢true (sym (none_beyond c.0 past k inside) ∙ runs))

  -- What one entry does.
  module _ (k : ℕ) (inside : k < length es) where
    abbrev m : Entered w es run k
    m = made_by w es run k inside

    abbrev e : Entry
    e = m.entry

    abbrev s : State
    s = state_at w es k

    ready : IsReady w s
    ready = reached_ready w (length (take k es)) s (reached w es run k)

    cause : IsCause w s e.cpu.0 e.event
    cause = ready_cause w s e.cpu e.hints e.event ready m.step

    one : OneRuns s
    one = kept_reached (λ w s. OneRuns s) (record { start = opening_one; step = one_kept }) w (length (take k es)) s (reached w es run k)

    stands_in : t < length s.threads
    stands_in = let as_many = many w es run k in omega (arith, as_many, here)

    -- the count of a processor that is there
    rises : (c : CpuId) → c.0 < w.cpus → count c (suc k) ≡ count c k + (if (e.cpu.0 == c.0) && ticks e.event then 1 else 0)
    rises c there_is =
        ap (λ (r : State). (cpu_of r c.0).count) (m.state ∙ ap (λ n. after w s n e.cpu e.event) m.number)
        ∙ rise_law w (length (take k es)) s e.cpu e.hints e.event (reached w es run k) m.step c.0 there_is

    charged_here : charge (suc k) ≡ charged t e.event
    charged_here = ap charge_of m.at

    running : (c : CpuId) → (view k).doing ≡ does.Running c → count c (suc k) ≡ count c k + charge (suc k)
    running c on =
        let own = own_ticks w s t c.0 e.cpu e.event one stands_in (runs_so (thread_of s t).place c on) cause in
        rises c (cpu_there k (omega (arith, inside)) c on)
        ∙ ap (λ b. count c k + (if b then 1 else 0)) own ∙ ap (λ n. count c k + n) (sym charged_here)

    resting : is_on (view k).doing ≡ false → charge (suc k) ≡ 0
    resting off = charged_here ∙ ap (λ b. if b then 1 else 0) (no_ticks w s t e.cpu e.event off cause)

    ticked_here : ticked (suc k) ≡ count e.cpu (suc k)
    ticked_here = ap (tick_by (state_at w es (suc k))) m.at

    kept_elsewhere : (c : ℕ) → c ≢ e.cpu.0 → is_running c (thread_of (state_at w es (suc k)) t).place ≡ is_running c (thread_of s t).place
    kept_elsewhere c other = ap (λ (r : State). is_running c (thread_of r t).place) m.state ∙ others_keep w s e.number e.cpu e.event ready cause t c other

    -- a thread that runs on another processor before or after the entry does so on both sides
    both_sides : (c : CpuId) → c.0 ≢ e.cpu.0 → is_running c.0 (thread_of s t).place ≡ true → same_doing (view k).doing (view (suc k)).doing ≡ true
    both_sides c other on =
        let now = so_runs (thread_of s t).place c on in
        let next = so_runs (thread_of (state_at w es (suc k)) t).place c (kept_elsewhere c.0 other ∙ on) in
        ap (λ d. same_doing d (view (suc k)).doing) now ∙ ap (same_doing (does.Running c)) next ∙ same_self (does.Running c)

    at_onset : (c : CpuId) → (c.0 ≢ e.cpu.0 → is_running c.0 (thread_of s t).place ≡ true) → same_doing (view k).doing (view (suc k)).doing ≡ false
        → ticked (suc k) ≡ count c (suc k)
    at_onset c on changes = elim (cases_eq c.0 e.cpu.0) [
      | inl same ↦ ticked_here ∙ ap (λ d. (cpu_of (state_at w es (suc k)) d).count) (sym same)
      | inr other ↦ absurd (false≢true (sym changes ∙ both_sides c other (on other)))
    ]

    ends : (c : CpuId) → (view k).doing ≡ does.Running c → same_doing (view k).doing (view (suc k)).doing ≡ false → ticked (suc k) ≡ count c (suc k)
    ends c on changes = at_onset c (λ other. runs_so (thread_of s t).place c on) changes

    begins : (c : CpuId) → (view (suc k)).doing ≡ does.Running c → same_doing (view k).doing (view (suc k)).doing ≡ false → ticked (suc k) ≡ count c (suc k)
    begins c on changes = at_onset c (λ other. sym (kept_elsewhere c.0 other) ∙ runs_so (thread_of (state_at w es (suc k)) t).place c on) changes

    abbrev Spun : Type 0
    Spun = Spins (length es) w.limit t view ticked count spin charge k

    -- what an event spends spinning
    abbrev spin_by : Event → List Spell
    spin_by ev = spell_by (track.Thread t) (happening_of (state_at w es (suc k)) e) ev ++ []

    spin_here : spin (suc k) ≡ spin_by e.event
    spin_here = ap (spin_of (state_at w es (suc k))) m.at

    -- a thread that spins stays where it is
    spin_stays : (u : ThreadId) (l : LockId) → e.event ≡ Spin u l → IsCause w s e.cpu.0 (Spin u l) → (thread_of (state_at w es (suc k)) t).place ≡ (thread_of s t).place
    spin_stays u l is spins =
        ap (λ (r : State). (thread_of r t).place) (m.state ∙ ap (after w s e.number e.cpu) is)
        ∙ after_steps w s e.number e.cpu (Spin u l) (step_needs w s e.cpu.0 (Spin u l) spins) (mover_there w s e.number e.cpu (Spin u l) ready.fits ready.agreed spins) t

    own_spin : (u : ThreadId) (l : LockId) → e.event ≡ Spin u l → IsCause w s e.cpu.0 (Spin u l) → (u.0 == t) ≡ true → Spun
    own_spin u l is spins own =
        let same : u.0 ≡ t = grind (arith, nat_tests, own) in
        let found = runner_found s e.cpu.0 u.0 spins.0.1.acts.runs in
        let on : is_running e.cpu.0 (thread_of s t).place ≡ true = ap (λ x. is_running e.cpu.0 (thread_of s x).place) (sym same) ∙ found.stands in
        let now : (view k).doing ≡ does.Running e.cpu = so_runs (thread_of s t).place e.cpu on in
        let one_more : charge (suc k) ≡ 1 = charged_here ∙ ap (charged t) is ∙ ap (λ b. if b then 1 else 0) own in
        let more : count e.cpu (suc k) ≡ count e.cpu k + charge (suc k) = running e.cpu now in
        let many : length (take k es) ≡ k = length-take-le k es (omega (arith, inside)) in
        let spell : Spell = record { lock = l; first = e.number; last = e.number; from = count e.cpu (suc k) - 1; to = count e.cpu (suc k) } in
        record {
          spell = spell;
          cpu = e.cpu;
          is = spin_here ∙ ap spin_by is ∙ ap (λ b. (if b then spell ∷ [] else []) ++ []) own;
          on = now;
          stays = ap (λ p. same_doing (view k).doing (doing_of p)) (spin_stays u l is spins) ∙ same_self (view k).doing;
          first = m.number ∙ many;
          from = omega (arith, more, one_more);
          to = refl;
        }

    spins_by : (ev : Event) → e.event ≡ ev → IsCause w s e.cpu.0 ev → (spin (suc k) ≡ []) ⊎ Spun
    spins_by (Spin u l) is spins = elim (cases_Bool (u.0 == t)) [
      | inl own ↦ inr (own_spin u l is spins own)
      | inr other ↦
          let spell : Spell = record { lock = l; first = e.number; last = e.number; from = count e.cpu (suc k) - 1; to = count e.cpu (suc k) } in
          inl (spin_here ∙ ap spin_by is ∙ ap (λ b. (if b then spell ∷ [] else []) ++ []) other)
    ]
    spins_by ev is cause_of = inl (spin_here ∙ ap spin_by is)

    entered : Made (length es) w.limit t view ticked count spin charge k
    entered = record { running = running; resting = resting; begins = begins; ends = ends; spins = spins_by e.event refl cause }

  -- The onsets of the thread, state after state.

  seen_now : (k : ℕ) → slice_get (sights_of (state_at w es k)) t ≡ Some (view k)
  unfolding sights_of
  seen_now k =
      slice_get-map sight_of (state_at w es k).threads t
      ∙ ap (option_map sight_of) (slice_get-get_or (state_at w es k).threads t no_thread (there w es t here k))

  abbrev onset : ℕ → List Onset
  onset k = onset_at (length es) w.limit t view ticked count spin charge k

  own_at : (k : ℕ) → own_onsets t (onsets_in (moment w es k)) ≡ onset k
  unfolding moment onset_at
  own_at zero =
      own_between t 0 (ticked 0) (sights_before w es 0) (sights_of (state_at w es 0)) (seen_inside w es t here 0) ∙ ap (onset_if t 0 (ticked 0) None) (seen_now 0)
  own_at (suc k) =
      own_between t (suc k) (ticked (suc k)) (sights_of (state_at w es k)) (sights_of (state_at w es (suc k))) (seen_inside w es t here (suc k))
      ∙ ap (λ o. onset_if t (suc k) (ticked (suc k)) o (slice_get (sights_of (state_at w es (suc k))) t)) (seen_now k)
      ∙ ap (onset_if t (suc k) (ticked (suc k)) (Some (view k))) (seen_now (suc k))

  own_over : own_onsets t (over onsets_in w es) ≡ flat_map onset (range_with_len 0 (length es + 1))
  unfolding over
  own_over =
      filter_flat (λ (x : Onset). x.thread == t) (λ k. onsets_in (moment w es k)) (range_with_len 0 (length es + 1))
      ∙ flat_range_same (λ k. own_onsets t (onsets_in (moment w es k))) onset 0 (length es + 1) (λ k inside. own_at k)

  -- The ticks that it spends spinning.

  flat_flat : {A B : Type 0} (f : A → List B) (g : ℕ → List A) (xs : List ℕ) → flat_map f (flat_map g xs) ≡ flat_map (λ x. flat_map f (g x)) xs
  flat_flat f g [] = refl
  flat_flat f g (x ∷ xs) = flat_map-append f (g x) (flat_map g xs) ∙ ap (λ ys. flat_map f (g x) ++ ys) (flat_flat f g xs)

  spells_over : spells_on (track.Thread t) (over happenings_in w es) ≡ flat_map spin (range_with_len 0 (length es + 1))
  unfolding over moment spells_on
  spells_over =
      flat_flat (λ (x : Happening). spell_by (track.Thread t) x x.event) (λ k. happenings_of (state_at w es k) (entry_before es k)) (range_with_len 0 (length es + 1))

  -- The ticks of the thread in the accounts.

  charges_from : (i m : ℕ) → i + m ≡ length es → sum_by charge (range_with_len (suc i) m) ≡ thread_ticks t (drop i es)
  unfolding thread_ticks
  charges_from i zero all = sym (ap (thread_ticks t) (drop_all i es (omega (arith, all))))
  charges_from i (suc m) all =
      let entry = made_by w es run i (omega (arith, all)) in
      let now : charge (suc i) ≡ charged t entry.entry.event = ap charge_of entry.at in
      let rest = ap (λ n. sum_by charge (range_with_len n m)) (add-one (suc i)) ∙ charges_from (suc i) m (omega (arith, all)) in
      let one = sum_by-cons charge (suc i) (range_with_len (suc i + 1) m) in
      let first = sum_by-cons (λ (x : Entry). cond (is_tick_of t x.event) 1 0) entry.entry (drop (suc i) es) in
      let list : thread_ticks t (drop i es) ≡ thread_ticks t (entry.entry ∷ drop (suc i) es) = ap (thread_ticks t) (drop_get es i entry.entry entry.at) in
      omega (arith, now, rest, one, first, list)

  -- The whole.

  stands : (k : ℕ) → Stands (length es) w.limit t view ticked count spin charge k
  stands k = stands_so (thread_of (state_at w es k) t).place

  still : is_on (view 0).doing ≡ false
  still = elim (stands 0) [
    | inl (c, on) ↦
        let off : is_running c.0 (thread_of (state_at w es 0) t).place ≡ false
        = ap (λ (s : State). is_running c.0 (thread_of s t).place) (final-nil w (opening w)) ∙ opening_runs_none w t c.0 in
        absurd (false≢true (sym off ∙ runs_so (thread_of (state_at w es 0) t).place c on))
    | inr off ↦ off
  ]

  ends_full : IsComplete w (final w (opening w) es) → (c : CpuId) → (view (length es)).doing ≡ does.Running c → count c (length es) ≡ w.limit
  ends_full complete c on =
      let whole : final w (opening w) es ≡ state_at w es (length es) = ap (final w (opening w)) (sym (take-length es)) in
      complete_at_limit w (length (take (length es) es)) (state_at w es (length es)) (reached w es run (length es)) (subst (IsComplete w) whole complete) c.0
      (cpu_there (length es) (omega arith) c on)

  pub accounted : (h : History) → IsComplete w (final w (opening w) es) → IsHistory w es h
      → sum_by run_share (pieces (track.Thread t) h w.limit) ≡ thread_ticks t es
  unfolding pieces stretches
  accounted h complete is =
      ap (λ xs. sum_by run_share (cut_all (stretches_of h.entries w.limit xs) (spells_on (track.Thread t) h.happenings.items))) (ap (own_onsets t) is.onsets ∙ own_over)
      ∙ ap (λ n. sum_by run_share (cut_all (stretches_of n w.limit (flat_map onset (range_with_len 0 (length es + 1)))) (spells_on (track.Thread t) h.happenings.items))) is.entries
      ∙ ap (λ ss. sum_by run_share (cut_all (stretches_of (length es) w.limit (flat_map onset (range_with_len 0 (length es + 1)))) ss))
      (ap (spells_on (track.Thread t)) is.happenings ∙ spells_over)
      ∙ all_run (length es) w.limit t view ticked count spin charge entered stands (ends_full complete) still refl
      ∙ charges_from 0 (length es) (omega arith)

pub running_accounted : RunningTicksAreAccounted
running_accounted w es h t run complete is here = shares (pieces (track.Thread t) h w.limit) ∙ accounted w es t run here h complete is
