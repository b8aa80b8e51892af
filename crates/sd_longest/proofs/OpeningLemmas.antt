-- The edges that open waits, gathered along the rows of a graph.
use Rattle.std.proofs.Common.{◌≡◌, ℕ, ◌+◌, ◌<◌, ◌≤◌, List, [], ◌∷◌, ◌++◌, length, Some, refl, sym, ap, ◌∙◌, subst, arith, inl, inr, ◌⊎◌}
use Rattle.std.specs.Prelude.{slice_get}
use Rattle.std.specs.List.{Contains}
use Rattle.std.specs.List.Sorted.{IsPermutation}
use Rattle.std.proofs.lemmas.Bool.{cases_lt}
use Rattle.std.proofs.lemmas.List.Elements.{Contains-append_left, Contains-push, Contains-push_cases}
use Rattle.std.proofs.lemmas.List.Sorted.{Contains-permutation, IsPermutation-sym}
use Rattle.std.proofs.lemmas.Option.{slice_get_within}
use Rattle.sd_longest.specs.declared.edges.Edge.{Edge}
use Rattle.sd_longest.specs.declared.edges.Effect.{Effect}
use Rattle.sd_longest.specs.declared.edges.Effect.TheVariants.{Opens, Ends, Passes}
use Rattle.sd_longest.specs.declared.openings.Opening.{Opening}
use Rattle.sd_longest.specs.Openings.{AreOpenings, AreOpeningsBelow, HasMore, IsOpening}
use Rattle.sd_longest.proofs.ListLemmas.{one_more, one_there}

module _ (rows : List (List Edge)) where
  -- those from the states before, and those of the first q edges of a row
  pub record AreAlong (from : ℕ) (row : List Edge) (q : ℕ) (found : List Opening) : Type 0 where
    pub are : (o : Opening) → Contains found o → IsOpening rows o
    pub before : (o : Opening) → o.from < from → IsOpening rows o → Contains found o
    pub here : (p : ℕ) (e : Edge) → p < q → slice_get row p ≡ Some e → e.effect ≡ Opens → Contains found (record { from = from; edge = e })

  module _ (from : ℕ) (row : List Edge) (q : ℕ) (e : Edge) (row_at : slice_get rows from ≡ Some row) (at : slice_get row q ≡ Some e) where
    stays : (old new : List Opening) → new ≡ old → (e.effect ≡ Opens → ⊥) → AreAlong from row q old → AreAlong from row (q + 1) new
    stays old new same none a =
        subst (λ (xs : List Opening). AreAlong from row (q + 1) xs) (sym same)
        (record {
          are = a.are;
          before = a.before;
          here = one_more row q e (λ d. d.effect ≡ Opens → Contains old (record { from = from; edge = d })) at a.here (λ opens. absurd (none opens));
        })

    grows : (old new : List Opening) → new ≡ old ++ (record { from = from; edge = e }) ∷ [] → e.effect ≡ Opens → AreAlong from row q old → AreAlong from row (q + 1) new
    grows old new more opens a =
        let x : Opening = record { from = from; edge = e } in
        subst (λ (xs : List Opening). AreAlong from row (q + 1) xs) (sym more)
        (record {
          are = λ o there. elim (Contains-push_cases old x o there) [
            | inl before ↦ a.are o before
            | inr new ↦ subst (λ (y : Opening). IsOpening rows y) new (record { edge = record { row = row; row_at = row_at; place = q; at = at }; opens = opens })
          ];
          before = λ o less is. Contains-append_left old (x ∷ []) o (a.before o less is);
          here = one_more row q e (λ d. d.effect ≡ Opens → Contains (old ++ x ∷ []) (record { from = from; edge = d })) at
              (λ p d few there opens. Contains-append_left old (x ∷ []) (record { from = from; edge = d }) (a.here p d few there opens)) (λ _. Contains-push old x);
        })

    pub along_more : (old new : List Opening) → HasMore old new from e e.effect → AreAlong from row q old → AreAlong from row (q + 1) new
    along_more old new more a = by e.effect refl more
      where
        by : (t : Effect) → e.effect ≡ t → HasMore old new from e t → AreAlong from row (q + 1) new
        by Opens is more = grows old new more is a
        by Ends is same = stays old new same (λ opens. cc) a
        by Passes is same = stays old new same (λ opens. cc) a

  pub along_last : (from : ℕ) (row : List Edge) (q : ℕ) (found : List Opening) → slice_get rows from ≡ Some row → length row ≤ q → AreAlong from row q found → AreOpeningsBelow rows (from + 1) found
  along_last from row q found row_at all a = record { are = a.are; all = λ o few is. by o few is (cases_lt o.from from) }
    where
      by : (o : Opening) → o.from < from + 1 → IsOpening rows o → (o.from < from) ⊎ (from ≤ o.from) → Contains found o
      by o few is (inl less) = a.before o less is
      by o few is (inr past) =
          let same : from ≡ o.from = omega (arith, few, past) in
          let own : row ≡ is.edge.row = one_there rows from o.from row is.edge.row same row_at is.edge.row_at in
          let at : slice_get row is.edge.place ≡ Some o.edge = ap (λ (r : List Edge). slice_get r is.edge.place) own ∙ is.edge.at in
          let within = slice_get_within row is.edge.place o.edge at in
          subst (λ n. Contains found (record { from = n; edge = o.edge })) same (a.here is.edge.place o.edge (omega (arith, within, all)) at is.opens)

  pub all_of : (n : ℕ) (found : List Opening) → length rows ≤ n → AreOpeningsBelow rows n found → AreOpenings rows found
  all_of n found all a = record {
    are = a.are;
    all = λ o is. a.all o (let within = slice_get_within rows o.from is.edge.row is.edge.row_at in omega (arith, within, all)) is;
  }

  -- in another order they are the same
  pub reordered : (old new : List Opening) → IsPermutation old new → AreOpenings rows old → AreOpenings rows new
  reordered old new moved a = record {
    are = λ o there. a.are o (Contains-permutation new old o (IsPermutation-sym old new moved) there);
    all = λ o is. Contains-permutation old new o moved (a.all o is);
  }
