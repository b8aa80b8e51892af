-- From each state of a run as many entries follow as its height says, at most, and some run has as many.
use Rattle.std.proofs.Common.{◌≡◌, ℕ, zero, suc, ◌+◌, ◌≤◌, List, [], ◌∷◌, length, get_or, Some, None, refl, ap, subst, inl, inr, ◌⊎◌, arith}
use Rattle.std.specs.Prelude.{slice_get, slice_index}
use Rattle.std.proofs.lemmas.Option.{slice_get-get_or}
use Rattle.sd_types.specs.declared.numbers.ThreadId.{ThreadId}
use Rattle.sd_types.specs.declared.events.Entry.{Entry}
use Rattle.sd_types.specs.declared.works.Work.{Work}
use Rattle.sd_state.specs.declared.states.State.{State}
use Rattle.sd_state.specs.Opening.{opening}
use Rattle.sd_machine.specs.Events.{after}
use Rattle.sd_machine.specs.Runs.{IsRun, IsRunFrom, IsStep, serial_hints, IsFresh}
use Rattle.sd_machine.proofs.RunLemmas.{IsRun-from, from-IsRun}
use Rattle.sd_invariants.proofs.Induction.{opening_reached}
use Rattle.sd_search.specs.declared.graph.Step.{Step}
use Rattle.sd_search.specs.Graphs.{IsGathered}
use Rattle.sd_search.proofs.TellLemmas.{inside_at}
use Rattle.sd_longest.specs.declared.edges.Edge.{Edge}
use Rattle.sd_longest.specs.Tables.{AreRows}
use Rattle.sd_longest.proofs.NearLemmas.{IsNear}
use Rattle.sd_longest.proofs.TraceLemmas.{stepped}
use Rattle.sd_longest.proofs.WaitWalkLemmas.{entry_of, taken}
use Rattle.sd_longest.specs.Heights.{AreHeights}
use Rattle.sd_longest.specs.Edges.{Follow, HasWay}
use Rattle.sd_longest.specs.LongestRuns.{HasLongRun, HasMost, IsLongestRun}

-- so many entries follow from a state
record HasEntries (w : Work) (n : ℕ) (s : State) (k : ℕ) : Type 0 where
  entries : List Entry
  run : IsRunFrom w s n entries
  fresh : IsFresh w s entries
  many : length entries ≡ k

no_entries : (w : Work) (n : ℕ) (s : State) → HasEntries w n s 0
unfolding IsRunFrom IsFresh
no_entries w n s = record { entries = []; run = tt; fresh = tt; many = refl }

one_entry : (w : Work) (n k : ℕ) (s : State) (e : Entry) → e.number ≡ n → IsStep w s e → e.hints ≡ serial_hints w s e.cpu → HasEntries w (n + 1) (after w s e.number e.cpu e.event) k → HasEntries w n s (suc k)
unfolding IsRunFrom IsFresh
one_entry w n k s e number step shown rest = record {
  entries = e ∷ rest.entries;
  run = (number, step, rest.run);
  fresh = (shown, rest.fresh);
  many = ap suc rest.many;
}

module _ (w : Work) (bs : List (List ℕ)) (steps : List Step) (done : ℕ) (g : IsGathered w bs steps done) (t : ThreadId) (rows : List (List Edge)) (a : AreRows w bs t (length bs) rows) where
  start : IsNear w bs 0 (opening w) 0
  start = record { state = g.start; at = g.start_at; same = g.opens; reached = opening_reached w }

  -- entries follow along edges
  along : (n : ℕ) (s : State) (i : ℕ) (es : List Edge) → IsNear w bs n s i → Follow rows i es → HasEntries w n s (length es)
  unfolding Follow
  along n s i [] near follow = no_entries w n s
  along n s i (e ∷ es) near (at, rest) =
      let one = taken w bs steps done g t rows a n s i e near at in
      let more = along (n + 1) (after w s n e.cpu one.event) e.to es one.near rest in
      one_entry w n (length es) s (entry_of w n s e.cpu one.event) refl one.step refl more

  -- as many as edges follow one another from the first state, or more
  pub many_of : (k : ℕ) → HasWay rows 0 k → HasLongRun w k
  many_of k way =
      let long = along 0 (opening w) 0 way.edges start way.follow in
      let enough = way.many in
      let same = long.many in
      record { entries = long.entries; run = record { run = from-IsRun w long.entries long.run; fresh = long.fresh }; many = omega (arith, enough, same) }

  -- where the heights are not told
  pub untold_of : HasWay rows 0 4294967295 ⊎ HasWay rows 0 (length rows) → IsLongestRun w (length bs) None
  untold_of (inl great) = inl (many_of 4294967295 great)
  untold_of (inr round) = inr (many_of (length bs) (subst (HasWay rows 0) a.many round))

module _ (w : Work) (bs : List (List ℕ)) (steps : List Step) (done : ℕ) (g : IsGathered w bs steps done) (t : ThreadId) (rows : List (List Edge)) (a : AreRows w bs t (length bs) rows) (hs : List ℕ) (heights : AreHeights rows hs) where
  bounded : (n : ℕ) (s : State) (i : ℕ) (es : List Entry) → IsNear w bs n s i → IsRunFrom w s n es → IsFresh w s es → length es ≤ slice_index hs i
  bounded n s i [] near run fresh = omega arith
  bounded n s i (e ∷ es) near run fresh =
      let one = stepped w bs steps done g t rows a n s i e es near run fresh in
      let rest = bounded (n + 1) (after w s e.number e.cpu e.event) one.edge.to es one.near one.run one.fresh in
      let up = (heights.each i one.at.row one.at.row_at).above one.at.place one.edge one.at.at in
      let many : length (e ∷ es) ≡ length es + 1 = omega arith in
      omega (arith, rest, up, many)

  reached : (k n : ℕ) (s : State) (i : ℕ) → IsNear w bs n s i → slice_index hs i ≡ k → HasEntries w n s k
  reached zero n s i near is = no_entries w n s
  reached (suc k) n s i near is =
      let within = inside_at bs i near.state near.at in
      let many = a.many in
      let none : List Edge = [] in
      let row = get_or rows i none in
      let row_at : slice_get rows i ≡ Some row = slice_get-get_or rows i none (omega (arith, many, within)) in
      by (λ m x j there at. reached k m x j there at) row row_at (heights.each i row row_at).made
    where
      by : ((m : ℕ) (x : State) (j : ℕ) → IsNear w bs m x j → slice_index hs j ≡ k → HasEntries w m x k) → (row : List Edge) → slice_get rows i ≡ Some row → (slice_index hs i ≡ 0) ⊎ ((place : ℕ) × (e : Edge) × (slice_get row place ≡ Some e) × (slice_index hs i ≡ slice_index hs e.to + 1)) → HasEntries w n s (suc k)
      by next row row_at (inl zero_is) = absurd (omega (arith, is, zero_is))
      by next row row_at (inr (place, e, at, above)) =
          let one = taken w bs steps done g t rows a n s i e near (record { row = row; row_at = row_at; place = place; at = at }) in
          let rest = next (n + 1) (after w s n e.cpu one.event) e.to one.near (omega (arith, is, above)) in
          one_entry w n k s (entry_of w n s e.cpu one.event) refl one.step refl rest

  pub longest_of : HasMost w (slice_index hs 0)
  longest_of =
      let long = reached (slice_index hs 0) 0 (opening w) 0 (start w bs steps done g t rows a) refl in
      record {
        entries = long.entries;
        run = record { run = from-IsRun w long.entries long.run; fresh = long.fresh };
        many = long.many;
        most = λ es r. bounded 0 (opening w) 0 es (start w bs steps done g t rows a) (IsRun-from w es r.run) r.fresh;
      }
