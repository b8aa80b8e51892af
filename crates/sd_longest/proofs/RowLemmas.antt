-- The rows of a graph, made turn by turn.
use Rattle.std.proofs.Common.{◌≡◌, ℕ, ◌+◌, ◌<◌, ◌≤◌, List, [], ◌∷◌, ◌++◌, length, Option, Some, None, refl, sym, ap, ◌∙◌, subst, arith, inl, inr, ◌⊎◌}
use Rattle.std.specs.Prelude.{Vec}
use Rattle.std.specs.List.{Contains}
use Rattle.std.specs.declared.alloc.Global.{Global}
use Rattle.std.proofs.lemmas.Bool.{cases_lt}
use Rattle.std.proofs.lemmas.List.{append-nil, length-append, map-append}
use Rattle.std.proofs.lemmas.List.Elements.{Contains-append_left, Contains-push, Contains-push_cases}
use Rattle.std.proofs.lemmas.Option.{none-some, slice_get_within}
use Rattle.sd_basics.proofs.Lists.{get_cases}
use Rattle.sd_types.specs.declared.numbers.CpuId.{CpuId}
use Rattle.sd_types.specs.declared.numbers.ThreadId.{ThreadId}
use Rattle.sd_types.specs.declared.events.Event.{Event}
use Rattle.sd_types.specs.declared.works.Work.{Work}
use Rattle.sd_state.specs.declared.states.State.{State}
use Rattle.sd_machine.specs.Events.{next}
use Rattle.sd_machine.specs.Runs.{serial_hints}
use Rattle.sd_search.specs.declared.graph.Step.{Step}
use Rattle.sd_search.specs.declared.turning.Turn.{Turn}
use Rattle.sd_search.specs.Graphs.{IsAt, IsGathered}
use Rattle.sd_search.specs.Turns.{IsTurnOf, Makes}
use Rattle.sd_search.proofs.TellLemmas.{at_same, inside_at}
use Rattle.sd_search.proofs.TurnLemmas.{each_at}
use Rattle.sd_longest.specs.declared.edges.Edge.{Edge}
use Rattle.sd_longest.specs.Edges.{IsEdge, LeadInside, rows_of}
use Rattle.sd_longest.proofs.ListLemmas.{contains_at}
use Rattle.sd_longest.specs.Tables.{AreRows, HasTurns, IsTurnEdge, edge_of, edges_of}

module _ (w : Work) (bs : List (List ℕ)) (t : ThreadId) where
  module _ (i : ℕ) (x : State) (at : IsAt bs i x) (c : CpuId) where
    edge_is : (turn : Turn) → Makes w bs x c turn → IsTurnEdge w bs t x (edge_of x c t turn)
    edge_is turn m = record { event = turn.event; makes = m.event; leads = m.leads; effect = refl; tick = refl }

    with_turn : (row : List Edge) (turn : Turn) → Makes w bs x c turn → HasTurns w bs t i c.0 row → HasTurns w bs t i (c.0 + 1) (row ++ edge_of x c t turn ∷ [])
    with_turn row turn m h = record {
      are = λ z e there in_row. elim (Contains-push_cases row (edge_of x c t turn) e in_row) [
        | inl before ↦ h.are z e there before
        | inr new ↦ subst (λ (d : Edge). IsTurnEdge w bs t z d) new (subst (λ (y : State). IsTurnEdge w bs t y (edge_of x c t turn)) (at_same bs i x z at there) (edge_is turn m))
      ];
      all = λ z d event there few makes. by z d event there few makes (cases_lt d.0 c.0);
    }
      where
        by : (z : State) (d : CpuId) (event : Event) → IsAt bs i z → d.0 < c.0 + 1 → next w z d (serial_hints w z d) ≡ Some event → (d.0 < c.0) ⊎ (c.0 ≤ d.0) → (e : Edge) × Contains (row ++ edge_of x c t turn ∷ []) e × (e.cpu ≡ d)
        by z d event there few makes (inl less) =
            let old = h.all z d event there less makes in
            (old.0, Contains-append_left row (edge_of x c t turn ∷ []) old.0 old.1, old.2)
        by z d event there few makes (inr past) =
            let same : c.0 ≡ d.0 = omega (arith, few, past) in
            (edge_of x c t turn, Contains-push row (edge_of x c t turn), ap (λ n. let v : CpuId = record { 0 = n } in v) same)

    without_turn : (row : List Edge) → next w x c (serial_hints w x c) ≡ None → HasTurns w bs t i c.0 row → HasTurns w bs t i (c.0 + 1) row
    without_turn row none h = record { are = h.are; all = λ z d event there few makes. by z d event there few makes (cases_lt d.0 c.0) }
      where
        by : (z : State) (d : CpuId) (event : Event) → IsAt bs i z → d.0 < c.0 + 1 → next w z d (serial_hints w z d) ≡ Some event → (d.0 < c.0) ⊎ (c.0 ≤ d.0) → (e : Edge) × Contains row e × (e.cpu ≡ d)
        by z d event there few makes (inl less) = h.all z d event there less makes
        by z d event there few makes (inr past) =
            let same : d.0 ≡ c.0 = omega (arith, few, past) in
            let here : next w z c (serial_hints w z c) ≡ Some event = subst (λ n. let v : CpuId = record { 0 = n } in next w z v (serial_hints w z v) ≡ Some event) same makes in
            absurd (none-some event (sym none ∙ subst (λ (y : State). next w y c (serial_hints w y c) ≡ Some event) (at_same bs i z x there at) here))

    pub turned_more : (old new : List Edge) (o : Option Turn) → IsTurnOf w bs x c o → new ≡ old ++ edges_of x c t o → HasTurns w bs t i c.0 old → HasTurns w bs t i (c.0 + 1) new
    turned_more old new None none is h = subst (λ (es : List Edge). HasTurns w bs t i (c.0 + 1) es) (sym (is ∙ append-nil old)) (without_turn old none h)
    turned_more old new (Some turn) m is h = subst (λ (es : List Edge). HasTurns w bs t i (c.0 + 1) es) (sym is) (with_turn old turn m h)

  -- ---- rows

  pub rows_more : (n : ℕ) (old new : List (Vec Edge Global)) (row : Vec Edge Global) → new ≡ old ++ row ∷ [] → HasTurns w bs t n w.cpus row.items → AreRows w bs t n (rows_of old) → AreRows w bs t (n + 1) (rows_of new)
  rows_more n old new row is h a =
      let pushed : rows_of new ≡ rows_of old ++ row.items ∷ [] = ap rows_of is ∙ map-append items_of old (row ∷ []) in
      subst (λ (xs : List (List Edge)). AreRows w bs t (n + 1) xs) (sym pushed)
      (record {
        many = length-append (rows_of old) (row.items ∷ []) ∙ ap (λ k. k + 1) a.many;
        each = λ i own at. elim (get_cases (rows_of old) row.items own i at) [
          | inl before ↦ a.each i own before
          | inr last ↦ subst (λ (r : List Edge). HasTurns w bs t i w.cpus r) last.1 (subst (λ k. HasTurns w bs t k w.cpus row.items) (sym (last.0 ∙ a.many)) h)
        ];
      })
    where
      items_of : Vec Edge Global → List Edge
      items_of v = v.items

  module _ (steps : List Step) (done : ℕ) (g : IsGathered w bs steps done) (rows : List (List Edge)) (a : AreRows w bs t (length bs) rows) where
    -- the turn that an edge is
    pub edge_there : (i : ℕ) (x : State) (e : Edge) → IsAt bs i x → IsEdge rows i e → IsTurnEdge w bs t x e
    edge_there i x e at edge = (a.each i edge.row edge.row_at).are x e at (contains_at edge.row edge.place e edge.at)

    pub lead_inside : LeadInside rows
    lead_inside i e edge =
        let inside = slice_get_within rows i edge.row edge.row_at in
        let many = a.many in
        let there = each_at w bs steps done g i (omega (arith, inside, many)) in
        let is = edge_there i there.0 e there.1 edge in
        let to = inside_at bs e.to is.leads.state is.leads.at in
        omega (arith, to, many)
