-- The states in which runs end without a thread, and the runs that lead there.
use Rattle.std.proofs.Common.{◌≡◌, ℕ, ◌+◌, ◌<◌, ◌≤◌, Bool, true, false, not, List, length, Some, Result, Ok, Err, get_or, refl, sym, ap, ◌∙◌, subst, arith, inl, inr, ◌⊎◌}
use Rattle.std.specs.Prelude.{◌↔◌, slice_get, IfOk, IsTrue, Vec}
use Rattle.std.specs.declared.alloc.Global.{Global}
use Rattle.std.proofs.lemmas.Bool.{cases_lt}
use Rattle.std.proofs.lemmas.Option.{get_or_from_slice_get, slice_get_within}
use Rattle.sd_types.specs.declared.numbers.CpuId.{CpuId}
use Rattle.sd_types.specs.declared.numbers.ThreadId.{ThreadId}
use Rattle.sd_types.specs.declared.events.Entry.{Entry}
use Rattle.sd_types.specs.declared.works.Work.{Work}
use Rattle.sd_state.specs.declared.states.State.{State}
use Rattle.sd_state.specs.Opening.{opening}
use Rattle.sd_state.specs.States.{thread_of}
use Rattle.sd_machine.specs.Runs.{IsComplete, IsReached, final, round}
use Rattle.sd_machine.specs.Threads.{has_ended}
use Rattle.sd_encoding.proofs.AfterLemmas.{ended_same}
use Rattle.sd_encoding.proofs.NextLemmas.{next_same}
use Rattle.sd_encoding.proofs.SourceLemmas.{AreAlike}
use Rattle.sd_search.specs.Spelled.{IsSpelled}
use Rattle.sd_search.proofs.RunLemmas.{alike}
use Rattle.sd_search.specs.declared.graph.Step.{Step}
use Rattle.sd_search.specs.Finals.{AreFinals}
use Rattle.sd_search.specs.Graphs.{IsAt, IsGathered}
use Rattle.sd_search.proofs.BackLemmas.{turned}
use Rattle.sd_search.proofs.FinalLemmas.{gathers_all, stands_at}
use Rattle.sd_search.proofs.KeyLemmas.{keys_reached}
use Rattle.sd_search.proofs.TellLemmas.{inside_at}
use Rattle.sd_extremes.specs.Misses.{IsLeft, IsMiss, IsMissedAt}

-- the test of a thread's place is that of the state
pub left_tells : (ended : Bool) (t : ThreadId) (x : State) → ended ≡ has_ended (thread_of x t.0).place → IsTrue (not ended) ↔ IsLeft t x
left_tells true t x is = ((λ e. cc), (λ left. cc))
left_tells false t x is = ((λ e. sym is), (λ left. refl))

-- what holds of a state holds of those whose keys have the same order
complete_on : (n m : ℕ) (x s : State) (w : Work) → AreAlike n m x s → IsComplete w x → IsComplete w s
complete_on n m x s w h complete = λ c hints. sym (next_same n m x s h w c hints) ∙ complete c hints

left_on : (n m : ℕ) (x s : State) (t : ThreadId) → AreAlike n m x s → IsLeft t x → IsLeft t s
left_on n m x s t h left = sym (ended_same n m x s h t.0) ∙ left

module _ (w : Work) (bs : List (List ℕ)) (t : ThreadId) where
  -- none of the first p states in which runs end is so
  pub IsNoneOf : List ℕ → ℕ → Type 0
  IsNoneOf finals p = (k j : ℕ) → k < p → slice_get finals k ≡ Some j → (x : State) → IsAt bs j x → IsLeft t x → ⊥

  pub none_first : (finals : List ℕ) → IsNoneOf finals 0
  unfolding IsNoneOf
  none_first finals k j few at x here left = absurd (omega (arith, few))

  pub none_next : (finals : List ℕ) (p : ℕ) (found : Bool) → found ≡ false → p < length finals → ((x : State) → IsAt bs (get_or finals p 0) x → IsTrue found ↔ IsLeft t x) → IsNoneOf finals p → IsNoneOf finals (p + 1)
  unfolding IsNoneOf
  none_next finals p found not_found inside tells before k j few at x here left = by (cases_lt k p)
    where
      by : (k < p) ⊎ (p ≤ k) → ⊥
      by (inl less) = before k j less at x here left
      by (inr more) =
          let same : k ≡ p = omega (arith, few, more) in
          let is : get_or finals p 0 ≡ j = get_or_from_slice_get finals p j 0 (subst (λ n. slice_get finals n ≡ Some j) same at) in
          let asked = (tells x (subst (λ n. IsAt bs n x) (sym is) here)).1 left in
          cc

  pub none_at_all : (finals : List ℕ) (p : ℕ) → AreFinals w bs (length bs) finals → length finals ≤ p → IsNoneOf finals p → (i : ℕ) → IsMissedAt w bs t i → ⊥
  unfolding IsNoneOf
  none_at_all finals p are all none i m =
      let s = stands_at w bs (length bs) finals i are (inside_at bs i m.state m.at) (record { state = m.state; at = m.at; complete = m.complete }) in
      let within = slice_get_within finals s.0 i s.1 in
      none s.0 i (omega (arith, within, all)) s.1 m.state m.at m.left

  module _ (steps : List Step) (done : ℕ) (g : IsGathered w bs steps done) where
    -- where all were searched no run ends so
    pub never_missed : length bs ≤ done → ((i : ℕ) → IsMissedAt w bs t i → ⊥) → (es : List Entry) → IsMiss w t es → ⊥
    never_missed all none es miss =
        let run = miss.run.run in
        let has = gathers_all w bs steps done g all es run.run run.fresh in
        let s = final w (opening w) es in
        let x = has.state in
        let n = length es in
        let reached : IsReached w n s = record { entries = es; run = run.run; many = refl; ends = refl } in
        let back : AreAlike n 0 s x = alike n 0 s x (turned x s has.same) (keys_reached w n s reached) (g.fits has.among.index x has.among.at) in
        none has.among.index (record { state = x; at = has.among.at; complete = complete_on n 0 s x w back miss.run.complete; left = left_on n 0 s x t back miss.left })

    -- the run that leads there is one
    miss_of : (i : ℕ) (m : IsMissedAt w bs t i) (cs : List CpuId) → IsSpelled w cs m.state → IsMiss w t (round w (opening w) 0 cs)
    miss_of i m cs spelled =
        let fs = round w (opening w) 0 cs in
        let s = final w (opening w) fs in
        let x = m.state in
        let n = length fs in
        let reached : IsReached w n s = record { entries = fs; run = spelled.run; many = refl; ends = refl } in
        let h : AreAlike 0 n x s = alike 0 n x s spelled.ends (g.fits i x m.at) (keys_reached w n s reached) in
        record {
          run = record { run = record { run = spelled.run; fresh = spelled.fresh }; complete = complete_on 0 n x s w h m.complete };
          left = left_on 0 n x s t h m.left;
        }

    pub spelled_miss : {E : Type 0} (i : ℕ) (cs ds : List CpuId) (r : Result (Vec Entry Global) E) → IsMissedAt w bs t i → ((x : State) → IsAt bs i x → IsSpelled w cs x) → ds ≡ cs
        → IfOk r (λ v. v.items ≡ round w (opening w) 0 ds) → IfOk r (λ v. IsMiss w t v.items)
    spelled_miss i cs ds (Ok v) m spelled same is =
        subst (λ (es : List Entry). IsMiss w t es) (sym (is ∙ ap (round w (opening w) 0) same)) (miss_of i m cs (spelled m.state m.at))
    spelled_miss i cs ds (Err e) m spelled same is = tt
