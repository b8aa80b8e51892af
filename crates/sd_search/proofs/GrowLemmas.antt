-- What is gathered when one more state is put in, and when one more is expanded.
use Rattle.std.proofs.Common.{◌≡◌, ℕ, zero, suc, ◌+◌, ◌<◌, ◌≤◌, List, [], ◌∷◌, ◌++◌, length, Bool, true, false, Some, sym, ap, ◌∙◌, subst, arith, inl, inr, ◌⊎◌}
use Rattle.std.specs.Prelude.{slice_get}
use Rattle.std.proofs.lemmas.Bool.{cases_lt}
use Rattle.std.proofs.lemmas.List.{length-append}
use Rattle.std.proofs.lemmas.Option.{slice_get_within}
use Rattle.sd_basics.proofs.Lists.{get_more, get_last, get_cases}
use Rattle.sd_types.specs.declared.numbers.CpuId.{CpuId}
use Rattle.sd_types.specs.declared.works.Work.{Work}
use Rattle.sd_state.specs.declared.states.State.{State}
use Rattle.sd_machine.specs.Events.{after}
use Rattle.sd_encoding.specs.Order.{KeysFit}
use Rattle.sd_encoding.specs.Ranks.{ranked}
use Rattle.sd_search.specs.Closed.{Has}
use Rattle.sd_search.specs.Spelled.{IsTurn}
use Rattle.sd_encoding.specs.Encoding.{IsHeld, encoded}
use Rattle.sd_search.specs.declared.graph.Graph.{Graph}
use Rattle.sd_search.specs.declared.graph.Step.{Step}
use Rattle.sd_search.specs.Graphs.{IsAmong, IsAt, IsExpanded, IsGathered, IsGrown, IsLayered, IsReachedBy, IsSoon, IsSoonTurned, IsTurned, packed, steps_of}
use Rattle.sd_search.specs.Stored.{IsInserted}
use Rattle.sd_search.proofs.TellLemmas.{at_same, inside_at, told}

-- ---- states that are kept

abbrev pub AreKept : List (List ℕ) → List (List ℕ) → Type 0
AreKept bs bs' = (i : ℕ) (x : State) → IsAt bs i x → IsAt bs' i x

pub has_kept : (bs bs' : List (List ℕ)) → AreKept bs bs' → (s : State) → Has (IsAmong bs) s → Has (IsAmong bs') s
has_kept bs bs' kept s has = record { state = has.state; among = record { index = has.among.index; at = kept has.among.index has.state has.among.at }; same = has.same }

pub turned_kept : (w : Work) (bs bs' : List (List ℕ)) → AreKept bs bs' → (x : State) (c : CpuId) → IsTurned w bs x c → IsTurned w bs' x c
turned_kept w bs bs' kept x c turned = λ e makes. has_kept bs bs' kept (after w x 0 c e) (turned e makes)

-- ---- one state more

module _ (w : Work) (bs : List (List ℕ)) (steps : List Step) (done : ℕ) (g : IsGathered w bs steps done) (step : Step) (x y : State) (at : IsAt bs step.before x) (turn : IsTurn w x step.cpu y) (own : IsHeld y) (rank : ranked y ≡ y) (last : step.before ≡ done) (fresh : (k : ℕ) → slice_get bs k ≡ Some (encoded y) → ⊥) where
  more : List (List ℕ)
  more = bs ++ encoded y ∷ []

  kept_more : AreKept bs more
  unfolding more
  kept_more i z here = record { bytes = get_more bs (encoded y ∷ []) i (encoded z) here.bytes; held = here.held }

  reached_more : (i : ℕ) (st : Step) → slice_get (steps ++ step ∷ []) (suc i) ≡ Some st → IsReachedBy w more (suc i) st
  unfolding more
  reached_more i st e = elim (get_cases steps step st (suc i) e) [
    | inl before ↦
        let r = g.reached i st before in
        record { before = r.before; from = r.from; from_at = kept_more st.before r.from r.from_at; to = r.to; to_at = kept_more (suc i) r.to r.to_at; turn = r.turn }
    | inr last ↦
        let place : suc i ≡ length bs = last.0 ∙ g.many in
        let inside = inside_at bs step.before x at in
        subst (λ s. IsReachedBy w more (suc i) s) last.1
        (record {
          before = omega (arith, inside, place);
          from = x;
          from_at = kept_more step.before x at;
          to = y;
          to_at = subst (λ k. IsAt more k y) (sym place) (record { bytes = get_last bs (encoded y); held = own });
          turn = turn;
        })
  ]

  fits_more : (i : ℕ) (z : State) → IsAt more i z → KeysFit 0 z
  unfolding more
  fits_more i z here = elim (get_cases bs (encoded y) (encoded z) i here.bytes) [
    | inl before ↦ g.fits i z (record { bytes = before; held = here.held })
    | inr last ↦ subst (λ v. KeysFit 0 v) (told y z own here.held last.1) turn.fits
  ]

  ranks_more : (i : ℕ) (z : State) → IsAt more i z → ranked z ≡ z
  unfolding more
  ranks_more i z here = elim (get_cases bs (encoded y) (encoded z) i here.bytes) [
    | inl before ↦ g.ranks i z (record { bytes = before; held = here.held })
    | inr last ↦ subst (λ v. ranked v ≡ v) (told y z own here.held last.1) rank
  ]

  differ_more : (i j : ℕ) (b : List ℕ) → slice_get more i ≡ Some b → slice_get more j ≡ Some b → i ≡ j
  unfolding more
  differ_more i j b here there = by (get_cases bs (encoded y) b i here) (get_cases bs (encoded y) b j there)
    where
      by : (slice_get bs i ≡ Some b) ⊎ ((i ≡ length bs) × (encoded y ≡ b)) → (slice_get bs j ≡ Some b) ⊎ ((j ≡ length bs) × (encoded y ≡ b)) → i ≡ j
      by (inl a) (inl c) = g.differ i j b a c
      by (inl a) (inr c) = absurd (fresh i (a ∙ ap (λ (z : List ℕ). Some z) (sym c.1)))
      by (inr a) (inl c) = absurd (fresh j (c ∙ ap (λ (z : List ℕ). Some z) (sym a.1)))
      by (inr a) (inr c) = a.0 ∙ sym c.0

  expanded_more : (i : ℕ) → i < done → IsExpanded w more i
  unfolding more
  expanded_more i few z here c = elim (get_cases bs (encoded y) (encoded z) i here.bytes) [
    | inl before ↦ turned_kept w bs more kept_more z c (g.expanded i few z (record { bytes = before; held = here.held }) c)
    | inr last ↦ absurd (let n = g.within in let e = last.0 in omega (arith, n, e, few))
  ]

  -- a state that was reached before was reached as soon
  soon_more : (j i : ℕ) → j < length bs → IsSoon steps j i → IsSoon (steps ++ step ∷ []) j i
  soon_more zero i inside is = tt
  soon_more (suc j) i inside is = λ st e. elim (get_cases steps step st (suc j) e) [
    | inl before ↦ is st before
    | inr last ↦ absurd (let place : suc j ≡ length bs = last.0 ∙ g.many in omega (arith, inside, place))
  ]

  rising_more : (i j : ℕ) (s t : Step) → i ≤ j → slice_get (steps ++ step ∷ []) (suc i) ≡ Some s → slice_get (steps ++ step ∷ []) (suc j) ≡ Some t → s.before ≤ t.before
  rising_more i j s t le e f = by (get_cases steps step s (suc i) e) (get_cases steps step t (suc j) f)
    where
      by : (slice_get steps (suc i) ≡ Some s) ⊎ ((suc i ≡ length steps) × (step ≡ s)) → (slice_get steps (suc j) ≡ Some t) ⊎ ((suc j ≡ length steps) × (step ≡ t)) → s.before ≤ t.before
      by (inl a) (inl b) = g.layered.rising i j s t le a b
      by (inl a) (inr b) = subst (λ (z : Step). s.before ≤ z.before) b.1 (subst (λ n. s.before ≤ n) (sym last) (g.layered.early (suc i) s a))
      by (inr a) (inl b) = absurd (let within = slice_get_within steps (suc j) t b in let place = a.0 in omega (arith, within, place, le))
      by (inr a) (inr b) = let same : s.before ≡ t.before = ap (λ (z : Step). z.before) (sym a.1 ∙ b.1) in omega (arith, same)

  early_more : (i : ℕ) → IsSoon (steps ++ step ∷ []) i done
  early_more zero = tt
  early_more (suc i) = λ st e. elim (get_cases steps step st (suc i) e) [
    | inl before ↦ g.layered.early (suc i) st before
    | inr new ↦ subst (λ (z : Step). z.before ≤ done) new.1 (omega (arith, last))
  ]

  turned_more : (i : ℕ) → i < done → IsSoonTurned w more (steps ++ step ∷ []) i
  unfolding more has_kept
  turned_more i few z here c e makes = elim (get_cases bs (encoded y) (encoded z) i here.bytes) [
    | inl before ↦
        let r = g.layered.soon i few z (record { bytes = before; held = here.held }) c e makes in
        (has_kept bs more kept_more (after w z 0 c e) r.0, soon_more r.0.among.index i (inside_at bs r.0.among.index r.0.state r.0.among.at) r.1)
    | inr new ↦ absurd (let n = g.within in let place = new.0 in omega (arith, n, place, few))
  ]

  layered_more : IsLayered w more (steps ++ step ∷ []) done
  layered_more = record { rising = rising_more; early = early_more; soon = turned_more }

  pub gathered_more : IsGathered w (bs ++ encoded y ∷ []) (steps ++ step ∷ []) done
  unfolding more
  gathered_more = record {
    start = g.start;
    start_at = kept_more 0 g.start g.start_at;
    opens = g.opens;
    many = length-append steps (step ∷ []) ∙ ap (λ n. n + 1) g.many ∙ sym (length-append bs (encoded y ∷ []));
    reached = reached_more;
    fits = fits_more;
    ranks = ranks_more;
    differ = differ_more;
    expanded = expanded_more;
    within = let n = g.within in let m : length (bs ++ encoded y ∷ []) ≡ length bs + 1 = length-append bs (encoded y ∷ []) in omega (arith, n, m);
    layered = layered_more;
  }

-- what was put in goes last, and stood nowhere
new_last : (bs bs' : List (List ℕ)) (b : List ℕ) (new : Bool) → new ≡ true → IsInserted bs bs' b new → (bs' ≡ bs ++ b ∷ []) × ((k : ℕ) → slice_get bs k ≡ Some b → ⊥)
new_last bs bs' b true is e = e
new_last bs bs' b false is e = cc

-- a state that a turn leads to is put in where it was not there
module _ (w : Work) (bs : List (List ℕ)) (steps : List Step) (done : ℕ) (g : IsGathered w bs steps done) (step : Step) (x y : State) (at : IsAt bs step.before x) (turn : IsTurn w x step.cpu y) (own : IsHeld y) (rank : ranked y ≡ y) (last : step.before ≡ done) where
  pub put_in : (bs' : List (List ℕ)) (steps' : List Step) (b : List ℕ) (new : Bool) → b ≡ encoded y → new ≡ true → IsInserted bs bs' b new → steps' ≡ steps ++ step ∷ [] → IsGathered w bs' steps' done
  put_in bs' steps' b new is put e one =
      let put_last = new_last bs bs' b new put e in
      let all : bs' ≡ bs ++ encoded y ∷ [] = put_last.0 ∙ ap (λ (z : List ℕ). bs ++ z ∷ []) is in
      let fresh : (k : ℕ) → slice_get bs k ≡ Some (encoded y) → ⊥ = λ k there. put_last.1 k (there ∙ ap (λ (z : List ℕ). Some z) (sym is)) in
      subst (λ (zs : List (List ℕ)). IsGathered w zs steps' done) (sym all)
      (subst (λ (zs : List Step). IsGathered w (bs ++ encoded y ∷ []) zs done) (sym one) (gathered_more w bs steps done g step x y at turn own rank last fresh))

pub kept_in : (bs bs' : List (List ℕ)) (b : List ℕ) (new : Bool) → IsInserted bs bs' b new → AreKept bs bs'
kept_in bs bs' b true e i x at = subst (λ (zs : List (List ℕ)). IsAt zs i x) (sym e.0) (record { bytes = get_more bs (b ∷ []) i (encoded x) at.bytes; held = at.held })
kept_in bs bs' b false e i x at = subst (λ (zs : List (List ℕ)). IsAt zs i x) (sym e.0) at

pub among_in : (bs bs' : List (List ℕ)) (b : List ℕ) (new : Bool) (y : State) → IsHeld y → b ≡ encoded y → IsInserted bs bs' b new → IsAmong bs' y
among_in bs bs' b true y own is e = record {
  index = length bs;
  at = record {
    bytes = subst (λ (zs : List (List ℕ)). slice_get zs (length bs) ≡ Some (encoded y)) (sym e.0)
        (subst (λ (z : List ℕ). slice_get (bs ++ z ∷ []) (length bs) ≡ Some (encoded y)) (sym is) (get_last bs (encoded y)));
    held = own;
  };
}
among_in bs bs' b false y own is e = record {
  index = e.1.0;
  at = record {
    bytes = subst (λ (zs : List (List ℕ)). slice_get zs e.1.0 ≡ Some (encoded y)) (sym e.0) (e.1.1 ∙ ap (λ (z : List ℕ). Some z) is);
    held = own;
  };
}

-- ---- one state more is expanded

pub expanded_one : (w : Work) (bs : List (List ℕ)) (steps : List Step) (done : ℕ) → IsGathered w bs steps done → done < length bs → IsExpanded w bs done → IsGathered w bs steps (done + 1)
expanded_one w bs steps done g inside here = record {
  start = g.start;
  start_at = g.start_at;
  opens = g.opens;
  many = g.many;
  reached = g.reached;
  fits = g.fits;
  ranks = g.ranks;
  differ = g.differ;
  expanded = λ i few. by i few (cases_lt i done);
  within = omega (arith, inside);
  layered = record { rising = g.layered.rising; early = later; soon = λ i few. soon_by i few (cases_lt i done) };
}
  where
    later : (i : ℕ) → IsSoon steps i (done + 1)
    later zero = tt
    later (suc i) = λ st e. let le : st.before ≤ done = g.layered.early (suc i) st e in omega (arith, le)

    soon_by : (i : ℕ) → i < done + 1 → (i < done) ⊎ (done ≤ i) → IsSoonTurned w bs steps i
    soon_by i few (inl less) = g.layered.soon i less
    soon_by i few (inr more) =
        let e : done ≡ i = omega (arith, few, more) in
        subst (λ k. IsSoonTurned w bs steps k) e
        (λ x at c event makes. let has = here x at c event makes in (has, g.layered.early has.among.index))

    by : (i : ℕ) → i < done + 1 → (i < done) ⊎ (done ≤ i) → IsExpanded w bs i
    by i few (inl less) = g.expanded i less
    by i few (inr more) = let e : done ≡ i = omega (arith, few, more) in subst (λ k. IsExpanded w bs k) e here

-- ---- graphs that go on from one another

pub grown_twice : (w : Work) (g h k : Graph) → IsGrown w g h → IsGrown w h k → IsGrown w g k
grown_twice w g h k a b = record { gathered = b.gathered; kept = λ i x at. b.kept i x (a.kept i x at); done = b.done ∙ a.done }

-- the first that was not expanded is now
pub expanded_after : (w : Work) (g h : Graph) (x : State) → IsAt (packed g) g.done x → IsGrown w g h → ((c : CpuId) → IsTurned w (packed h) x c) → IsGathered w (packed h) (steps_of h) (g.done + 1)
expanded_after w g h x at grown turned =
    let here : IsAt (packed h) g.done x = grown.kept g.done x at in
    let all : IsGathered w (packed h) (steps_of h) g.done = subst (λ n. IsGathered w (packed h) (steps_of h) n) grown.done grown.gathered in
    expanded_one w (packed h) (steps_of h) g.done all (inside_at (packed h) g.done x here)
    (λ y there c. subst (λ z. IsTurned w (packed h) z c) (at_same (packed h) g.done x y here there) (turned c))
