-- One entry more.
use Rattle.std.proofs.Common.{◌≡◌, ℕ, zero, suc, ◌+◌, ◌<◌, ◌≤◌, List, [], ◌∷◌, ◌++◌, length, Some, None, refl, sym, ap, subst, ◌∙◌, arith, add-one}
use Rattle.std.specs.Prelude.{slice_get}
use Rattle.std.specs.List.{flat_map, range_with_len}
use Rattle.std.proofs.lemmas.List.{take-append-le, take_all, length-append, length-map, append-nil, get_or_append_left}
use Rattle.std.proofs.lemmas.Option.{slice_get-get_or}
use Rattle.std.proofs.Math.Seq.{get_or-append_seam}
use Rattle.sd_basics.proofs.Ranges.{flat_range_more, flat_range_same}
use Rattle.sd_types.specs.declared.events.Entry.{Entry}
use Rattle.sd_types.specs.declared.works.Work.{Work}
use Rattle.sd_state.specs.declared.states.State.{State}
use Rattle.sd_state.specs.Opening.{opening}
use Rattle.sd_machine.specs.Runs.{final, state_at}
use Rattle.sd_machine.proofs.OpeningLemmas.{opening_fits}
use Rattle.sd_machine.proofs.RunLemmas.{final_fits, final-push}
use Rattle.sd_frames.specs.Altered.{altered}
use Rattle.sd_stretches.specs.declared.sights.Sight.{Sight}
use Rattle.sd_state.specs.States.{cpu_of}
use Rattle.sd_stretches.specs.declared.histories.History.{History}
use Rattle.sd_machine.specs.Events.{after}
use Rattle.sd_stretches.specs.Sights.{runnable, sight_of, sights_of}
use Rattle.sd_stretches.specs.Changes.{onsets_between, ranks_between, load_if, hand_overs_of, happenings_of, wakeups_of}
use Rattle.sd_stretches.specs.Altered.{AlikeBut, last_count, loads_by, onsets_by, ranks_by, sight_among, sights_by}
use Rattle.sd_stretches.proofs.AlteredLemmas.{alter_one, last_over, loads_one, onsets_one, ranks_one, sights_one}
use Rattle.sd_stretches.specs.Histories.{Moment, moment, over, onsets_in, ranks_in, loads_in, hand_overs_in, wakeups_in, happenings_in, IsHistory}

module _ (w : Work) (es : List Entry) (e : Entry) where
  pub state_stays : (k : ℕ) → k ≤ length es → state_at w (es ++ e ∷ []) k ≡ state_at w es k
  state_stays k inside = ap (final w (opening w)) (take-append-le k es (e ∷ []) inside)

  one_more : length (es ++ e ∷ []) ≡ length es + 1
  one_more = length-append es (e ∷ [])

  entry_stays : (k : ℕ) → k < length es → slice_get (es ++ e ∷ []) k ≡ slice_get es k
  entry_stays k inside =
      slice_get-get_or (es ++ e ∷ []) k e (let n = one_more in omega (arith, n, inside))
      ∙ ap Some (get_or_append_left es (e ∷ []) e k inside)
      ∙ sym (slice_get-get_or es k e inside)

  moment_stays : (k : ℕ) → k ≤ length es → moment w (es ++ e ∷ []) k ≡ moment w es k
  unfolding moment
  moment_stays zero inside = ap (λ (s : State). record { first = 0; earlier = []; state = s; entry = None }) (state_stays 0 inside)
  moment_stays (suc k) inside =
      let before = state_stays k (omega arith) in
      let now = state_stays (suc k) inside in
      let entry = entry_stays k (omega arith) in
      rw (before, now, entry) refl

  -- the state that the last entry made
  pub last_moment : Moment
  last_moment = record { first = length es + 1; earlier = sights_of (final w (opening w) es); state = final w (opening w) (es ++ e ∷ []); entry = Some e }

  moment_last : moment w (es ++ e ∷ []) (length es + 1) ≡ last_moment
  unfolding moment last_moment
  moment_last =
      ap (moment w (es ++ e ∷ [])) (add-one (length es))
      ∙ (let before : sights_of (state_at w (es ++ e ∷ []) (length es)) ≡ sights_of (final w (opening w) es)
      = ap sights_of (state_stays (length es) (omega arith) ∙ ap (final w (opening w)) (take_all (length es) es (omega arith))) in
      let now : state_at w (es ++ e ∷ []) (suc (length es)) ≡ final w (opening w) (es ++ e ∷ [])
      = ap (final w (opening w)) (take_all (suc (length es)) (es ++ e ∷ []) (let n = one_more in omega (arith, n))) in
      let entry : slice_get (es ++ e ∷ []) (length es) ≡ Some e
      = slice_get-get_or (es ++ e ∷ []) (length es) e (let n = one_more in omega (arith, n)) ∙ ap Some (get_or-append_seam es e [] e) in
      let many : suc (length es) ≡ length es + 1 = sym (add-one (length es)) in
      rw (before, now, entry, many) refl)

  -- what the states of a run show, and that of one entry more
  pub over_more : {A : Type 0} (f : Moment → List A) → over f w (es ++ e ∷ []) ≡ over f w es ++ f last_moment
  unfolding over
  over_more {A} f =
      ap (λ n. flat_map (λ k. f (moment w (es ++ e ∷ []) k)) (range_with_len 0 (n + 1))) one_more
      ∙ flat_range_more (λ k. f (moment w (es ++ e ∷ []) k)) (length es + 1)
      ∙ ap (λ (xs : List A). xs ++ f (moment w (es ++ e ∷ []) (length es + 1)))
      (flat_range_same (λ k. f (moment w (es ++ e ∷ []) k)) (λ k. f (moment w es k)) 0 (length es + 1) (λ k inside. ap f (moment_stays k (omega arith))))
      ∙ ap (λ (m : Moment). flat_map (λ k. f (moment w es k)) (range_with_len 0 (length es + 1)) ++ f m) moment_last

final_none : (w : Work) → final w (opening w) [] ≡ opening w
unfolding final
final_none w = refl

-- what the initial state shows
pub over_none : {A : Type 0} (f : Moment → List A) (w : Work) → over f w [] ≡ f (record { first = 0; earlier = []; state = opening w; entry = None })
unfolding over moment
over_none f w = append-nil (f (record { first = 0; earlier = []; state = final w (opening w) []; entry = None }))
    ∙ ap f (ap (λ (s : State). record { first = 0; earlier = []; state = s; entry = None }) (final_none w))

-- the history of no entry, and of one entry more
pub history_none : (w : Work) (s : State) (h : History) → s ≡ opening w → h.onsets.items ≡ onsets_between [] (sights_of s) 0 0 → h.ranks.items ≡ ranks_between [] (sights_of s) 0 0
    → h.loads.items ≡ load_if [] (sights_of s) 0 0 → h.hand_overs.items ≡ [] → h.wakeups.items ≡ [] → h.happenings.items ≡ [] → h.sights.items ≡ sights_of s → h.entries ≡ 0
    → IsHistory w [] h
history_none w s h start onsets ranks loads hand_overs wakeups happenings sights entries = record {
  onsets = onsets ∙ rw start (sym (over_none onsets_in w));
  ranks = ranks ∙ rw start (sym (over_none ranks_in w));
  loads = loads ∙ rw start (sym (over_none loads_in w));
  hand_overs = hand_overs ∙ sym (over_none hand_overs_in w);
  wakeups = wakeups ∙ sym (over_none wakeups_in w);
  happenings = happenings ∙ sym (over_none happenings_in w);
  sights = sights ∙ ap sights_of (start ∙ sym (final_none w));
  entries = entries;
}

pub history_more : (w : Work) (es : List Entry) (e : Entry) (s : State) (old new : History) → s ≡ final w (opening w) (es ++ e ∷ []) → IsHistory w es old
    → new.onsets.items ≡ old.onsets.items ++ onsets_between old.sights.items (sights_of s) (old.entries + 1) (cpu_of s e.cpu.0).count
    → new.ranks.items ≡ old.ranks.items ++ ranks_between old.sights.items (sights_of s) (old.entries + 1) (cpu_of s e.cpu.0).count
    → new.loads.items ≡ old.loads.items ++ load_if old.sights.items (sights_of s) (old.entries + 1) (cpu_of s e.cpu.0).count
    → new.hand_overs.items ≡ old.hand_overs.items ++ hand_overs_of s (Some e)
    → new.wakeups.items ≡ old.wakeups.items ++ wakeups_of s (Some e)
    → new.happenings.items ≡ old.happenings.items ++ happenings_of s (Some e)
    → new.sights.items ≡ sights_of s → new.entries ≡ old.entries + 1
    → IsHistory w (es ++ e ∷ []) new
unfolding last_moment
history_more w es e s old new state h onsets ranks loads hand_overs wakeups happenings sights entries =
    let o = h.sights in
    let n = h.entries in
    let t = h.onsets in
    let r = h.ranks in
    let l = h.loads in
    let g = h.hand_overs in
    let k = h.wakeups in
    let p = h.happenings in
    record {
      onsets = onsets ∙ rw (t, o, n, state) (sym (over_more w es e onsets_in));
      ranks = ranks ∙ rw (r, o, n, state) (sym (over_more w es e ranks_in));
      loads = loads ∙ rw (l, o, n, state) (sym (over_more w es e loads_in));
      hand_overs = hand_overs ∙ rw (g, state) (sym (over_more w es e hand_overs_in));
      wakeups = wakeups ∙ rw (k, state) (sym (over_more w es e wakeups_in));
      happenings = happenings ∙ rw (p, state) (sym (over_more w es e happenings_in));
      sights = sights ∙ ap sights_of state;
      entries = entries ∙ ap (λ m. m + 1) n ∙ sym (length-append es (e ∷ []));
    }

few_sights : (w : Work) (es : List Entry) → length (sights_of (final w (opening w) es)) ≤ 18446744073709551615
unfolding sights_of
few_sights w es =
    let many = length-map (final w (opening w) es).threads sight_of in
    let fits = (final_fits w (opening w) es (opening_fits w)).threads in
    let few = w.most_threads in
    omega (arith, many, fits, few)

-- the sights that a history has are those of the next state, but for one thread
alike_next : (w : Work) (es : List Entry) (e : Entry) (h : History) → IsHistory w es h → AlikeBut (altered e.event) h.sights.items (sights_of (final w (opening w) (es ++ e ∷ [])))
alike_next w es e h is =
    let o = altered e.event in
    let s = final w (opening w) es in
    subst (λ xs. AlikeBut o xs (sights_of (final w (opening w) (es ++ e ∷ [])))) (sym is.sights)
    (subst (λ r. AlikeBut o (sights_of s) (sights_of r)) (sym (final-push w (opening w) es e)) (alter_one w s e.number e.cpu e.event))

-- the next sights, from that of the one thread that the entry may have altered
pub sights_next : (w : Work) (es : List Entry) (e : Entry) (h : History) → IsHistory w es h
    → sights_by (altered e.event) h.sights.items (sight_among (altered e.event) (sights_of (final w (opening w) (es ++ e ∷ [])))) ≡ sights_of (final w (opening w) (es ++ e ∷ []))
sights_next w es e h is = sights_one (altered e.event) h.sights.items (sights_of (final w (opening w) (es ++ e ∷ []))) (alike_next w es e h is)

-- one entry more, from the sight of that thread
pub history_by : (w : Work) (es : List Entry) (e : Entry) (s : State) (old new : History) → s ≡ final w (opening w) (es ++ e ∷ []) → IsHistory w es old
    → new.onsets.items ≡ old.onsets.items ++ onsets_by (altered e.event) (old.entries + 1) (cpu_of s e.cpu.0).count old.sights.items (sight_among (altered e.event) (sights_of s))
    → new.ranks.items ≡ old.ranks.items ++ ranks_by (altered e.event) (old.entries + 1) (cpu_of s e.cpu.0).count old.sights.items (sight_among (altered e.event) (sights_of s))
    → new.loads.items ≡ old.loads.items ++ loads_by (last_count old.loads.items) (altered e.event) (old.entries + 1) (cpu_of s e.cpu.0).count old.sights.items (sight_among (altered e.event) (sights_of s))
    → new.hand_overs.items ≡ old.hand_overs.items ++ hand_overs_of s (Some e)
    → new.wakeups.items ≡ old.wakeups.items ++ wakeups_of s (Some e)
    → new.happenings.items ≡ old.happenings.items ++ happenings_of s (Some e)
    → new.sights.items ≡ sights_of s → new.entries ≡ old.entries + 1
    → IsHistory w (es ++ e ∷ []) new
history_by w es e s old new state h onsets ranks loads hand_overs wakeups happenings sights entries =
    let o = altered e.event in
    let first = old.entries + 1 in
    let tick = (cpu_of s e.cpu.0).count in
    let before : List Sight = old.sights.items in
    let alike : AlikeBut o before (sights_of s) = subst (λ r. AlikeBut o before (sights_of r)) (sym state) (alike_next w es e old h) in
    let count : last_count old.loads.items ≡ runnable before = ap last_count h.loads ∙ last_over w es ∙ sym (ap runnable h.sights) in
    let few : length (sights_of s) ≤ 18446744073709551615 = subst (λ r. length (sights_of r) ≤ 18446744073709551615) (sym state) (few_sights w (es ++ e ∷ [])) in
    history_more w es e s old new state h
    (onsets ∙ ap (λ ys. old.onsets.items ++ ys) (onsets_one o first tick before (sights_of s) alike))
    (ranks ∙ ap (λ ys. old.ranks.items ++ ys) (ranks_one o first tick before (sights_of s) alike))
    (loads ∙ ap (λ ys. old.loads.items ++ ys) (ap (λ m. loads_by m o first tick before (sight_among o (sights_of s))) count ∙ loads_one o first tick before (sights_of s) alike few))
    hand_overs wakeups happenings sights entries
