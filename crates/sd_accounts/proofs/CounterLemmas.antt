-- What one entry more adds to the counters is what it adds to the counts.
use Rattle.std.proofs.Common.{◌≡◌, ℕ, zero, suc, ◌+◌, ◌<◌, ◌^◌, Bool, true, false, ◌&&◌, ◌==◌, cond, eqb, List, [], ◌∷◌, ◌++◌, length, get_or, set, replicate, slice_get, count_by, Option, Some, None, refl, sym, ap, ◌∙◌, arith, inl, inr}
use Rattle.std.proofs.lemmas.Bool.{cases_Bool, eqb-true, eq-eqb, false≢true}
use Rattle.std.proofs.lemmas.List.{length-append}
use Rattle.std.proofs.lemmas.List.Sums.{count_by-le-length, sum_by_push}
use Rattle.std.proofs.lemmas.Option.{get_or_from_slice_get, none-some}
use Rattle.sd_basics.proofs.Lists.{get_set_other}
use Rattle.sd_types.specs.declared.events.Event.{Event}
use Rattle.sd_types.specs.declared.events.Event.TheVariants.{Tick, Spin, Dispatch, Steal, Preempt, Napend, Wake, Rouse, Unblock, Grant, SemaVWake, Away}
use Rattle.sd_types.specs.declared.events.Entry.{Entry}
use Rattle.sd_types.specs.declared.numbers.CpuId.{CpuId}
use Rattle.sd_types.specs.declared.works.Work.{Work}
use Rattle.sd_types.specs.Events.{ticks}
use Rattle.sd_state.specs.Accounts.{is_tick_of, is_dispatch_of, is_preempt_of, is_wake_of, is_idle, thread_ticks, thread_dispatches, thread_preempts, thread_wakes, cpu_ticks, cpu_idle}
use Rattle.sd_machine.specs.Accounts.{entries_of, is_dispatch, is_steal, is_preempt, is_wake, is_block, is_will}
use Rattle.sd_accounts.specs.declared.counters.ThreadCounts.{ThreadCounts}
use Rattle.sd_accounts.specs.declared.counters.CpuCounts.{CpuCounts}
use Rattle.sd_accounts.specs.declared.accounts.Accounts.{Accounts}
use Rattle.sd_accounts.specs.Counters.{more, no_thread_counts, no_cpu_counts, no_totals, thread_after, cpu_after, totals_after, counted_thread, counted_at, threads_after, cpus_after, thread_counts_of, cpu_counts_of, totals_of, HasTaken}

-- A number that is far from the greatest.

more_is : (p : Bool) (n : ℕ) → n < 2 ^ 48 → more p n ≡ n + cond p 1 0
more_is true n few = omega arith
more_is false n few = omega arith

count_push : {X : Type 0} (p : X → Bool) (xs : List X) (x : X) → length xs < 2 ^ 48 → more (p x) (count_by p xs) ≡ count_by p (xs ++ x ∷ [])
count_push p xs x few =
    let least : count_by p xs < 2 ^ 48 = omega (arith, count_by-le-length p xs) in
    more_is (p x) (count_by p xs) least ∙ sym (sum_by_push (λ y. cond (p y) 1 0) xs x)

-- Lists of counters of which one is written.

get_set_here : {X : Type 0} (xs : List X) (u t : ℕ) (x y : X) → u ≡ t → slice_get xs t ≡ Some x → slice_get (set xs u y) t ≡ Some y
get_set_here [] u t x y same got = absurd (none-some x got)
get_set_here (z ∷ zs) zero zero x y same got = refl
get_set_here (z ∷ zs) zero (suc t) x y same got = absurd (omega arith)
get_set_here (z ∷ zs) (suc u) zero x y same got = absurd (omega arith)
get_set_here (z ∷ zs) (suc u) (suc t) x y same got = get_set_here zs u t x y (omega arith) got

get_replicate : {X : Type 0} (n t : ℕ) (x : X) → t < n → slice_get (replicate n x) t ≡ Some x
get_replicate zero t x inside = absurd (omega arith)
get_replicate (suc n) zero x inside = refl
get_replicate (suc n) (suc t) x inside = get_replicate n t x (omega arith)

-- An event is of the accounts of one thread at most.

abbrev names : ℕ → Option ℕ → Bool
names t None = false
names t (Some u) = u == t

not_counted : (t : ℕ) (e : Event) → names t (counted_thread e) ≡ false
    → (is_tick_of t e ≡ false) × (is_dispatch_of t e ≡ false) × (is_preempt_of t e ≡ false) × (is_wake_of t e ≡ false)
not_counted t (Tick u) h = (h, refl, refl, refl)
not_counted t (Spin u l) h = (h, refl, refl, refl)
not_counted t (Dispatch u p) h = (refl, h, refl, refl)
not_counted t (Steal v u p) h = (refl, h, refl, refl)
not_counted t (Preempt u end) h = (refl, refl, h, refl)
not_counted t (Napend u at) h = (refl, refl, refl, h)
not_counted t (Wake v k (Some (u, at))) h = (refl, refl, refl, h)
not_counted t (Rouse k (Some (u, at))) h = (refl, refl, refl, h)
not_counted t (Unblock l u at) h = (refl, refl, refl, h)
not_counted t (Grant l u at) h = (refl, refl, refl, h)
not_counted t (SemaVWake v k u at) h = (refl, refl, refl, h)
not_counted t (Away u d) h = (refl, refl, h, refl)
not_counted t e h = (refl, refl, refl, refl)

thread_stays : (t : ℕ) (e : Event) (x : ThreadCounts) → names t (counted_thread e) ≡ false → thread_after t e x ≡ x
unfolding thread_after
thread_stays t e x h = let n = not_counted t e h in rw (n.0, n.1, n.2, n.3) refl

thread_push : (es : List Entry) (e : Entry) (t : ℕ) → length es < 2 ^ 48 → thread_after t e.event (thread_counts_of es t) ≡ thread_counts_of (es ++ e ∷ []) t
unfolding thread_after thread_ticks thread_dispatches thread_preempts thread_wakes
thread_push es e t few =
    let a = count_push (λ (x : Entry). is_tick_of t x.event) es e few in
    let b = count_push (λ (x : Entry). is_dispatch_of t x.event) es e few in
    let c = count_push (λ (x : Entry). is_preempt_of t x.event) es e few in
    let d = count_push (λ (x : Entry). is_wake_of t x.event) es e few in
    cc

module _ (es : List Entry) (e : Entry) (few : length es < 2 ^ 48) where
  thread_taken : (xs : List ThreadCounts) (t : ℕ) → slice_get xs t ≡ Some (thread_counts_of es t)
      → slice_get (threads_after e.event xs) t ≡ Some (thread_counts_of (es ++ e ∷ []) t)
  unfolding threads_after
  thread_taken xs t held = by (counted_thread e.event) refl
    where
      stays : names t (counted_thread e.event) ≡ false → Some (thread_counts_of es t) ≡ Some (thread_counts_of (es ++ e ∷ []) t)
      stays other = ap Some (sym (thread_stays t e.event (thread_counts_of es t) other) ∙ thread_push es e t few)

      here : (u : ℕ) → u ≡ t → Some (thread_after u e.event (get_or xs u no_thread_counts)) ≡ Some (thread_counts_of (es ++ e ∷ []) t)
      here u same =
          ap (λ k. Some (thread_after k e.event (get_or xs k no_thread_counts))) same
          ∙ ap (λ x. Some (thread_after t e.event x)) (get_or_from_slice_get xs t (thread_counts_of es t) no_thread_counts held)
          ∙ ap Some (thread_push es e t few)

      by : (o : Option ℕ) → counted_thread e.event ≡ o → slice_get (counted_at o e.event xs) t ≡ Some (thread_counts_of (es ++ e ∷ []) t)
      by None is = held ∙ stays (ap (names t) is)
      by (Some u) is = elim (cases_Bool (eqb u t)) [
        | inl same ↦ get_set_here xs u t (thread_counts_of es t) (thread_after u e.event (get_or xs u no_thread_counts)) (eqb-true u t same) held ∙ here u (eqb-true u t same)
        | inr other ↦ get_set_other xs u t (thread_after u e.event (get_or xs u no_thread_counts)) (λ same. false≢true (sym other ∙ eq-eqb u t same)) ∙ held ∙ stays (ap (names t) is ∙ other)
      ]

  cpu_push : (c : ℕ) → eqb e.cpu.0 c ≡ true → cpu_after e.event (cpu_counts_of es c) ≡ cpu_counts_of (es ++ e ∷ []) c
  unfolding cpu_after cpu_ticks cpu_idle
  cpu_push c own =
      let a = count_push (λ (x : Entry). (x.cpu.0 == c) && ticks x.event) es e few in
      let b = count_push (λ (x : Entry). (x.cpu.0 == c) && is_idle x.event) es e few in
      let p : (e.cpu.0 == c) && ticks e.event ≡ ticks e.event = ap (λ q. q && ticks e.event) own in
      let q : (e.cpu.0 == c) && is_idle e.event ≡ is_idle e.event = ap (λ q. q && is_idle e.event) own in
      cc

  cpu_stays : (c : ℕ) → eqb e.cpu.0 c ≡ false → cpu_counts_of es c ≡ cpu_counts_of (es ++ e ∷ []) c
  unfolding cpu_ticks cpu_idle
  cpu_stays c other =
      let a = count_push (λ (x : Entry). (x.cpu.0 == c) && ticks x.event) es e few in
      let b = count_push (λ (x : Entry). (x.cpu.0 == c) && is_idle x.event) es e few in
      let p : cpu_ticks c es ≡ more ((e.cpu.0 == c) && ticks e.event) (cpu_ticks c es) = ap (λ q. more (q && ticks e.event) (cpu_ticks c es)) (sym other) in
      let q : cpu_idle c es ≡ more ((e.cpu.0 == c) && is_idle e.event) (cpu_idle c es) = ap (λ q. more (q && is_idle e.event) (cpu_idle c es)) (sym other) in
      cc

  cpu_taken : (xs : List CpuCounts) (c : ℕ) → slice_get xs c ≡ Some (cpu_counts_of es c)
      → slice_get (cpus_after e.cpu.0 e.event xs) c ≡ Some (cpu_counts_of (es ++ e ∷ []) c)
  unfolding cpus_after
  cpu_taken xs c held = elim (cases_Bool (eqb e.cpu.0 c)) [
    | inl own ↦
        let is : e.cpu.0 ≡ c = eqb-true e.cpu.0 c own in
        get_set_here xs e.cpu.0 c (cpu_counts_of es c) (cpu_after e.event (get_or xs e.cpu.0 no_cpu_counts)) is held
        ∙ ap (λ k. Some (cpu_after e.event (get_or xs k no_cpu_counts))) is
        ∙ ap (λ x. Some (cpu_after e.event x)) (get_or_from_slice_get xs c (cpu_counts_of es c) no_cpu_counts held)
        ∙ ap Some (cpu_push c own)
    | inr other ↦
        get_set_other xs e.cpu.0 c (cpu_after e.event (get_or xs e.cpu.0 no_cpu_counts)) (λ same. false≢true (sym other ∙ eq-eqb e.cpu.0 c same))
        ∙ held ∙ ap Some (cpu_stays c other)
  ]

  totals_taken : totals_after e.event (totals_of es) ≡ totals_of (es ++ e ∷ [])
  unfolding totals_after entries_of
  totals_taken =
      let n : more true (length es) ≡ length (es ++ e ∷ []) = omega (arith, length-append es (e ∷ [])) in
      let a = count_push (λ (x : Entry). ticks x.event) es e few in
      let b = count_push (λ (x : Entry). is_idle x.event) es e few in
      let c = count_push (λ (x : Entry). is_dispatch x.event) es e few in
      let d = count_push (λ (x : Entry). is_steal x.event) es e few in
      let f = count_push (λ (x : Entry). is_preempt x.event) es e few in
      let g = count_push (λ (x : Entry). is_wake x.event) es e few in
      let h = count_push (λ (x : Entry). is_block x.event) es e few in
      let i = count_push (λ (x : Entry). is_will x.event) es e few in
      cc

  -- an entry more is taken in
  pub taken_more : (w : Work) (a b : Accounts) → b.threads ≡ threads_after e.event a.threads → b.cpus ≡ cpus_after e.cpu.0 e.event a.cpus
      → b.totals ≡ totals_after e.event a.totals → HasTaken w es a → HasTaken w (es ++ e ∷ []) b
  taken_more w a b threads cpus totals h = record {
    threads = λ t inside. ap (λ xs. slice_get xs t) threads ∙ thread_taken a.threads t (h.threads t inside);
    cpus = λ c inside. ap (λ xs. slice_get xs c) cpus ∙ cpu_taken a.cpus c (h.cpus c inside);
    totals = totals ∙ ap (totals_after e.event) h.totals ∙ totals_taken;
  }

  -- the same, where its processor and its event are known
  pub taken_as : (w : Work) (c : CpuId) (v : Event) (a b : Accounts) → e.cpu ≡ c → e.event ≡ v → b.threads ≡ threads_after v a.threads
      → b.cpus ≡ cpus_after c.0 v a.cpus → b.totals ≡ totals_after v a.totals → HasTaken w es a → HasTaken w (es ++ e ∷ []) b
  taken_as w c v a b of is threads cpus totals =
      taken_more w a b (threads ∙ ap (λ u. threads_after u a.threads) (sym is))
      (cpus ∙ ap (λ (d : CpuId). cpus_after d.0 v a.cpus) (sym of) ∙ ap (λ u. cpus_after e.cpu.0 u a.cpus) (sym is)) (totals ∙ ap (λ u. totals_after u a.totals) (sym is))

-- none is taken in at first
pub taken_none : (w : Work) (a : Accounts) → a.threads ≡ replicate (length w.threads) no_thread_counts → a.cpus ≡ replicate w.cpus no_cpu_counts
    → a.totals ≡ no_totals → HasTaken w [] a
unfolding thread_ticks thread_dispatches thread_preempts thread_wakes cpu_ticks cpu_idle entries_of
taken_none w a threads cpus totals = record {
  threads = λ t inside. ap (λ xs. slice_get xs t) threads ∙ get_replicate (length w.threads) t no_thread_counts inside;
  cpus = λ c inside. ap (λ xs. slice_get xs c) cpus ∙ get_replicate w.cpus c no_cpu_counts inside;
  totals = totals;
}
