-- How many steps lead back from a state to the first, and that no run comes to it with fewer entries.
use Rattle.std.proofs.Common.{◌≡◌, ℕ, zero, suc, ◌+◌, ◌<◌, ◌≤◌, List, [], ◌∷◌, length, Option, Some, Result, Ok, Err, refl, sym, ap, ◌∙◌, subst, arith, inl, inr, ◌⊎◌}
use Rattle.std.specs.Prelude.{slice_get, IfOk, Vec}
use Rattle.std.specs.declared.alloc.Global.{Global}
use Rattle.std.proofs.lemmas.Bool.{cases_lt}
use Rattle.sd_types.specs.declared.numbers.CpuId.{CpuId}
use Rattle.sd_types.specs.declared.events.Entry.{Entry}
use Rattle.sd_types.specs.declared.events.Event.{Event}
use Rattle.sd_types.specs.declared.events.Hints.{Hints}
use Rattle.sd_types.specs.declared.works.Work.{Work}
use Rattle.sd_state.specs.declared.states.State.{State}
use Rattle.sd_state.specs.Opening.{opening}
use Rattle.sd_machine.specs.Events.{after, next}
use Rattle.sd_machine.specs.Runs.{IsReached, IsRun, IsRunFrom, final, round, serial_hints, IsFresh}
use Rattle.sd_machine.proofs.RunLemmas.{IsRun-from}
use Rattle.sd_invariants.proofs.Induction.{opening_reached, reached_more}
use Rattle.sd_invariants.proofs.Range.{needs_reached}
use Rattle.sd_encoding.specs.Order.{IsSameOrder, KeysFit}
use Rattle.sd_encoding.proofs.AfterLemmas.{after_alike}
use Rattle.sd_encoding.proofs.NextLemmas.{next_same, serial_same}
use Rattle.sd_encoding.proofs.SourceLemmas.{AreAlike}
use Rattle.sd_search.specs.Spelled.{IsSpelled}
use Rattle.sd_search.proofs.OpeningKeys.{opening_keys}
use Rattle.sd_search.proofs.RunLemmas.{alike, joined}
use Rattle.sd_search.specs.declared.graph.Step.{Step}
use Rattle.sd_search.specs.declared.questions.Question.{Question}
use Rattle.sd_search.specs.Graphs.{IsAt, IsDeep, IsGathered, IsSoon}
use Rattle.sd_search.specs.Questions.{IsWitness, Meets}
use Rattle.sd_search.proofs.BackLemmas.{turned}
use Rattle.sd_search.proofs.KeyLemmas.{keys_reached}
use Rattle.sd_search.proofs.PathLemmas.{step_at}
use Rattle.sd_search.proofs.QuestionLemmas.{meets_same}
use Rattle.sd_search.proofs.TellLemmas.{inside_at}

-- what was reached from a state that was found early was reached from one that was found by then
soon_later : (steps : List Step) (j a b : ℕ) → a ≤ b → IsSoon steps j a → IsSoon steps j b
soon_later steps zero a b le soon = tt
soon_later steps (suc j) a b le soon = λ st at. let first = soon st at in omega (arith, first, le)

module _ (w : Work) (bs : List (List ℕ)) (steps : List Step) (done : ℕ) (g : IsGathered w bs steps done) where
  -- each state has its depth
  deep_within : (fuel i : ℕ) → i ≤ fuel → i < length bs → (n : ℕ) × IsDeep steps i n
  deep_within fuel zero few inside = (0, refl)
  deep_within zero (suc i) few inside = absurd (omega arith)
  deep_within (suc fuel) (suc i) few inside =
      let s = step_at w bs steps done g i inside in
      let before = (g.reached i s.0 s.1).before in
      let rest = deep_within fuel s.0.before (omega (arith, before, few)) (omega (arith, before, inside)) in
      (suc rest.0, (s.0, omega arith, s.1, rest.1))

  pub deep_at : (i : ℕ) → i < length bs → (n : ℕ) × IsDeep steps i n
  deep_at i inside = deep_within i i (omega arith) inside

  -- of two states the one that was found later is not nearer
  before_rising : (i j : ℕ) (s t : Step) → i ≤ j → 0 < i → slice_get steps i ≡ Some s → slice_get steps j ≡ Some t → s.before ≤ t.before
  before_rising zero j s t le some at there = absurd (omega arith)
  before_rising (suc i) zero s t le some at there = absurd (omega arith)
  before_rising (suc i) (suc j) s t le some at there = g.layered.rising i j s t (omega arith) at there

  pub deeper : (n m i j : ℕ) → i ≤ j → IsDeep steps i n → IsDeep steps j m → n ≤ m
  deeper zero m i j le a b = omega arith
  deeper (suc n) zero i j le (s, some, at, rest) b = absurd (omega (arith, le, some, b))
  deeper (suc n) (suc m) i j le (s, some, at, rest) (t, more, there, back) =
      let first = before_rising i j s t le some at there in
      let less = deeper n m s.before t.before first rest back in
      omega (arith, less)

  -- one that was reached from a state or before it is one step deeper at most
  soon_deep : (j i n m : ℕ) → IsSoon steps j i → IsDeep steps i n → IsDeep steps j m → m ≤ n + 1
  soon_deep j i n zero soon a b = omega arith
  soon_deep zero i n (suc m) soon a (t, more, there, back) = absurd (omega arith)
  soon_deep (suc j) i n (suc m) soon a (t, more, there, back) =
      let less = deeper m n t.before i (soon t there) back a in
      omega (arith, less)

  -- a state that is that of a run, and no deeper than the run has entries
  record IsNear (n : ℕ) (s : State) : Type 0 where
    index : ℕ
    state : State
    at : IsAt bs index state
    same : IsSameOrder state s
    depth : ℕ
    deep : IsDeep steps index depth
    within : depth ≤ n

  -- before its last entry a run came to a state that was not expanded
  record HasLeft (n : ℕ) : Type 0 where
    index : ℕ
    beyond : done ≤ index
    depth : ℕ
    deep : IsDeep steps index depth
    before : depth < n

  -- after one entry more
  near_entered : (n : ℕ) (s : State) (c : CpuId) (hints : Option Hints) (e : Event) → IsReached w n s → KeysFit n s → (near : IsNear n s) → near.index < done → hints ≡ serial_hints w s c → next w s c hints ≡ Some e
      → IsNear (n + 1) (after w s n c e) × KeysFit (n + 1) (after w s n c e)
  near_entered n s c hints e reached keys near less fresh step =
      let x = near.state in
      let h : AreAlike 0 n x s = alike 0 n x s near.same (g.fits near.index x near.at) keys in
      let made : next w x c (serial_hints w x c) ≡ Some e = ap (next w x c) (serial_same 0 n x s h w c ∙ sym fresh) ∙ next_same 0 n x s h w c hints ∙ step in
      let later = g.layered.soon near.index less x near.at c e made in
      let kept : AreAlike 1 (n + 1) (after w x 0 c e) (after w s n c e) = after_alike 0 n x s h w c e (needs_reached w n s c hints e reached step) in
      let d = deep_at later.0.among.index (inside_at bs later.0.among.index later.0.state later.0.among.at) in
      let one = soon_deep later.0.among.index near.index near.depth d.0 later.1 near.deep d.1 in
      let within = near.within in (
        record {
          index = later.0.among.index;
          state = later.0.state;
          at = later.0.among.at;
          same = joined later.0.state (after w x 0 c e) (after w s n c e) later.0.same kept.same;
          depth = d.0;
          deep = d.1;
          within = omega (arith, one, within);
        },
        kept.keys,
      )

  near_from : (n : ℕ) (s : State) (es : List Entry) → IsReached w n s → KeysFit n s → IsNear n s → IsRunFrom w s n es → IsFresh w s es → IsNear (n + length es) (final w s es) ⊎ HasLeft (n + length es)
  unfolding final IsRunFrom IsFresh
  near_from n s [] reached keys near run fresh = inl (subst (λ k. IsNear k s) (let e : n ≡ n + 0 = omega arith in e) near)
  near_from n s (e ∷ es) reached keys near (number, step, run) (shown, fresh) =
      by (λ here fit. near_from (n + 1) (after w s e.number e.cpu e.event) es (reached_more w n s e reached number step) fit here run fresh) (cases_lt near.index done)
    where
      by : (IsNear (n + 1) (after w s e.number e.cpu e.event) → KeysFit (n + 1) (after w s e.number e.cpu e.event) → IsNear (n + 1 + length es) (final w (after w s e.number e.cpu e.event) es) ⊎ HasLeft (n + 1 + length es))
          → (near.index < done) ⊎ (done ≤ near.index) → IsNear (n + length (e ∷ es)) (final w (after w s e.number e.cpu e.event) es) ⊎ HasLeft (n + length (e ∷ es))
      by rest (inl less) =
          let one = near_entered n s e.cpu e.hints e.event reached keys near less shown step in
          let here : IsNear (n + 1) (after w s e.number e.cpu e.event) = subst (λ k. IsNear (n + 1) (after w s k e.cpu e.event)) (sym number) one.0 in
          let fit : KeysFit (n + 1) (after w s e.number e.cpu e.event) = subst (λ k. KeysFit (n + 1) (after w s k e.cpu e.event)) (sym number) one.1 in
          subst (λ k. IsNear k (final w (after w s e.number e.cpu e.event) es) ⊎ HasLeft k) (let q : n + 1 + length es ≡ n + length (e ∷ es) = omega arith in q) (rest here fit)
      by rest (inr past) =
          inr (record { index = near.index; beyond = past; depth = near.depth; deep = near.deep; before = let within = near.within in let many : length (e ∷ es) ≡ length es + 1 = omega arith in omega (arith, within, many) })

  near_run : (es : List Entry) → IsRun w es → IsFresh w (opening w) es → IsNear (length es) (final w (opening w) es) ⊎ HasLeft (length es)
  near_run es run fresh =
      subst (λ k. IsNear k (final w (opening w) es) ⊎ HasLeft k) (let e : 0 + length es ≡ length es = omega arith in e)
      (near_from 0 (opening w) es (opening_reached w) (opening_keys w)
      (record { index = 0; state = g.start; at = g.start_at; same = g.opens; depth = 0; deep = refl; within = omega arith }) (IsRun-from w es run) fresh)

  -- no run that ends as was asked for has fewer entries than lead to the first such state
  pub none_shorter : (q : Question) (i n : ℕ) → IsDeep steps i n → ((j : ℕ) (y : State) → j < i → IsAt bs j y → Meets w q y → ⊥) → (fs : List Entry) → IsWitness w q fs → n ≤ length fs
  none_shorter q i n deep first fs witness = by (near_run fs witness.run witness.fresh)
    where
      met : (near : IsNear (length fs) (final w (opening w) fs)) → Meets w q near.state
      met near =
          let s = final w (opening w) fs in
          let reached : IsReached w (length fs) s = record { entries = fs; run = witness.run; many = refl; ends = refl } in
          meets_same (length fs) 0 s near.state (alike (length fs) 0 s near.state (turned near.state s near.same) (keys_reached w (length fs) s reached) (g.fits near.index near.state near.at)) w q witness.ends

      by_place : (near : IsNear (length fs) (final w (opening w) fs)) → (near.index < i) ⊎ (i ≤ near.index) → n ≤ length fs
      by_place near (inl less) = absurd (first near.index near.state less near.at (met near))
      by_place near (inr more) = let d = deeper n near.depth i near.index more deep near.deep in let within = near.within in omega (arith, d, within)

      by : IsNear (length fs) (final w (opening w) fs) ⊎ HasLeft (length fs) → n ≤ length fs
      by (inl near) = by_place near (cases_lt near.index i)
      by (inr left) =
          let d = soon_deep i left.index left.depth n (soon_later steps i done left.index left.beyond (g.layered.early i)) left.deep deep in
          let before = left.before in
          omega (arith, d, before)

-- the entries that the way to a state spells are as many as the steps
pub spelled_deep : {E : Type 0} (w : Work) (bs : List (List ℕ)) (steps : List Step) (i : ℕ) (x : State) (cs ds : List CpuId) (r : Result (Vec Entry Global) E) → IsAt bs i x → IsDeep steps i (length cs)
    → ((y : State) → IsAt bs i y → IsSpelled w cs y) → ds ≡ cs → IfOk r (λ v. v.items ≡ round w (opening w) 0 ds) → IfOk r (λ v. IsDeep steps i (length v.items))
spelled_deep w bs steps i x cs ds (Ok v) at deep spelled same is =
    subst (λ k. IsDeep steps i k) (sym (ap length (is ∙ ap (round w (opening w) 0) same) ∙ (spelled x at).many)) deep
spelled_deep w bs steps i x cs ds (Err e) at deep spelled same is = tt
