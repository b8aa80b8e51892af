-- The slices of a processor in a run follow one another in time.
use Rattle.std.proofs.Common.{◌≡◌, ℕ, zero, suc, ◌+◌, ◌<◌, ◌≤◌, ◌⊎◌, true, false, inl, inr, List, length, take, Some, None, sym, ap, subst, ◌∙◌, arith}
use Rattle.std.specs.Prelude.{slice_get, option_map}
use Rattle.std.specs.List.{flat_map, range_with_len}
use Rattle.std.proofs.lemmas.Bool.{cases_eq}
use Rattle.std.proofs.lemmas.List.{length-map}
use Rattle.std.proofs.lemmas.Option.{slice_get-map, slice_get-get_or}
use Rattle.sd_basics.proofs.Ranges.{flat_range_same}
use Rattle.sd_types.specs.declared.events.Entry.{Entry}
use Rattle.sd_types.specs.declared.works.Work.{Work}
use Rattle.sd_state.specs.declared.states.State.{State}
use Rattle.sd_state.specs.Opening.{opening}
use Rattle.sd_state.specs.States.{no_thread, thread_of, cpu_of, is_running}
use Rattle.sd_machine.specs.Events.{after}
use Rattle.sd_machine.specs.Runs.{state_at, IsRun}
use Rattle.sd_machine.proofs.RunLemmas.{final-nil}
use Rattle.sd_state.specs.Invariants.{OneRuns as AtMostOneRuns}
use Rattle.sd_state.proofs.Openings.{opening_runs_none}
use Rattle.sd_invariants.specs.Laws.{CountsWithin}
use Rattle.sd_invariants.proofs.CountLemmas.{opening_counts, after_counts}
use Rattle.sd_invariants.proofs.Ready.{kept_reached, ready_cause, reached_ready}
use Rattle.sd_invariants.proofs.RunningLemmas.{opening_one, one_kept}
use Rattle.sd_invariants.proofs.Counts.{rise_law}
use Rattle.sd_stretches.specs.declared.sights.Sight.{Sight}
use Rattle.sd_stretches.specs.Sights.{runs_on, sight_of, sights_of}
use Rattle.sd_stretches.specs.Changes.{onset_if, onsets_between}
use Rattle.sd_stretches.specs.Histories.{moment, sights_before, entry_before, tick_by, over, onsets_in}
use Rattle.sd_stretches.specs.Rows.{slices}
use Rattle.sd_statistics.specs.Follow.{FollowInTime, SlicesFollowInTime}
use Rattle.sd_statistics.proofs.Local.{others_keep}
use Rattle.sd_statistics.proofs.Steps.{made_by, many, reached, runs_place}
use Rattle.sd_statistics.proofs.Onsets.{all_follow, row, onset_in}

module _ (w : Work) (es : List Entry) (c : ℕ) (run : IsRun w es) (here : c < w.cpus) where
  view : ℕ → ℕ → Sight
  view k t = sight_of (thread_of (state_at w es k) t)

  tick_at : ℕ → ℕ
  tick_at k = tick_by (state_at w es k) (entry_before es k)

  count_at : ℕ → ℕ
  count_at k = (cpu_of (state_at w es k) c).count

  -- What holds of every state.

  still : (t : ℕ) → t < length w.threads → runs_on c (view 0 t).doing ≡ false
  unfolding view
  still t inside = runs_place c (thread_of (state_at w es 0) t).place ∙ ap (λ (s : State). is_running c (thread_of s t).place) (final-nil w (opening w)) ∙ opening_runs_none w t c

  one : (k t u : ℕ) → t < length w.threads → u < length w.threads → runs_on c (view k t).doing ≡ true → runs_on c (view k u).doing ≡ true → t ≡ u
  unfolding view
  one k t u t_in u_in t_on u_on =
      let only : AtMostOneRuns (state_at w es k) = kept_reached (λ w s. AtMostOneRuns s) (record { start = opening_one; step = one_kept }) w (length (take k es)) (state_at w es k) (reached w es run k) in
      let as_many = many w es run k in
      only t u c (omega (arith, as_many, t_in)) (omega (arith, as_many, u_in)) (sym (runs_place c (thread_of (state_at w es k) t).place) ∙ t_on) (sym (runs_place c (thread_of (state_at w es k) u).place) ∙ u_on)

  within : (k : ℕ) → count_at k ≤ w.limit
  unfolding count_at
  within k =
      kept_reached CountsWithin (record { start = opening_counts; step = λ w s n cpu e ready cause within. after_counts w s n cpu e cause within })
      w (length (take k es)) (state_at w es k) (reached w es run k) c

  -- And of every entry.

  more : (k : ℕ) → k < length es → count_at k ≤ count_at (suc k)
  unfolding count_at
  more k inside =
      let m = made_by w es run k inside in
      let e = m.entry in
      let s = state_at w es k in
      let rises = rise_law w (length (take k es)) s e.cpu e.hints e.event (reached w es run k) m.step c here in
      let same : (cpu_of (state_at w es (suc k)) c).count ≡ (cpu_of (after w s (length (take k es)) e.cpu e.event) c).count
      = ap (λ (r : State). (cpu_of r c).count) (m.state ∙ ap (λ n. after w s n e.cpu e.event) m.number) in
      omega (arith, rises, same)

  made_here : (k : ℕ) → k < length es → (t : ℕ) → t < length w.threads → (runs_on c (view k t).doing ≡ runs_on c (view (suc k) t).doing) ⊎ (tick_at (suc k) ≡ count_at (suc k))
  unfolding view tick_at count_at
  made_here k inside t t_in =
      let m = made_by w es run k inside in
      let e = m.entry in
      let s = state_at w es k in
      elim (cases_eq c e.cpu.0) [
        | inl is ↦ inr (ap (tick_by (state_at w es (suc k))) m.at ∙ ap (λ d. (cpu_of (state_at w es (suc k)) d).count) (sym is))
        | inr other ↦
            let ready = reached_ready w (length (take k es)) s (reached w es run k) in
            let kept = others_keep w s e.number e.cpu e.event ready (ready_cause w s e.cpu e.hints e.event ready m.step) t c other in
            inl (runs_place c (thread_of s t).place ∙ sym (ap (λ (r : State). is_running c (thread_of r t).place) m.state ∙ kept) ∙ sym (runs_place c (thread_of (state_at w es (suc k)) t).place))
      ]

  -- The onsets of a run are those of the rows of its states.

  seen : (k t : ℕ) → t < length w.threads → slice_get (sights_of (state_at w es k)) t ≡ Some (view k t)
  unfolding sights_of view
  seen k t inside =
      let as_many = many w es run k in
      slice_get-map sight_of (state_at w es k).threads t ∙ ap (option_map sight_of) (slice_get-get_or (state_at w es k).threads t no_thread (omega (arith, as_many, inside)))

  onset_is : (k t : ℕ) → t < length w.threads
      → onset_if t k (tick_at k) (slice_get (sights_before w es k) t) (slice_get (sights_of (state_at w es k)) t) ≡ onset_in c (length es) w.limit view (length w.threads) tick_at k t
  unfolding onset_in
  onset_is zero t inside = ap (onset_if t 0 (tick_at 0) None) (seen 0 t inside)
  onset_is (suc k) t inside =
      ap (λ o. onset_if t (suc k) (tick_at (suc k)) o (slice_get (sights_of (state_at w es (suc k))) t)) (seen k t inside)
      ∙ ap (onset_if t (suc k) (tick_at (suc k)) (Some (view k t))) (seen (suc k) t inside)

  seen_many : (k : ℕ) → length (sights_of (state_at w es k)) ≡ length w.threads
  unfolding sights_of
  seen_many k = length-map (state_at w es k).threads sight_of ∙ many w es run k

  row_is : (k : ℕ) → onsets_in (moment w es k) ≡ row c (length es) w.limit view (length w.threads) tick_at k
  unfolding moment onsets_between row tick_at
  row_is k =
      let as_many : length (sights_of (state_at w es k)) ≡ length w.threads = seen_many k in
      ap (λ n. flat_map (λ t. onset_if t k (tick_at k) (slice_get (sights_before w es k) t) (slice_get (sights_of (state_at w es k)) t)) (range_with_len 0 n)) as_many
      ∙ flat_range_same (λ t. onset_if t k (tick_at k) (slice_get (sights_before w es k) t) (slice_get (sights_of (state_at w es k)) t)) (onset_in c (length es) w.limit view (length w.threads) tick_at k) 0 (length w.threads)
      (λ t inside. onset_is k t (omega (arith, inside)))

  pub follow : FollowInTime (slices c (over onsets_in w es) (length es) w.limit)
  unfolding over
  follow =
      let all : flat_map (λ k. onsets_in (moment w es k)) (range_with_len 0 (length es + 1)) ≡ flat_map (row c (length es) w.limit view (length w.threads) tick_at) (range_with_len 0 (length es + 1))
      = flat_range_same (λ k. onsets_in (moment w es k)) (row c (length es) w.limit view (length w.threads) tick_at) 0 (length es + 1) (λ k inside. row_is k) in
      subst (λ xs. FollowInTime (slices c xs (length es) w.limit)) (sym all)
      (all_follow c (length es) w.limit view (length w.threads) tick_at count_at still (λ k inside. one k) (λ k inside. made_here k inside) (λ k inside. more k inside) (λ k inside. within k))

pub slices_follow : SlicesFollowInTime
slices_follow w es c run here = follow w es c run here
