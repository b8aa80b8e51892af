-- One label more, one state more whose wait has passed on, and what this comes to.
use Rattle.std.proofs.Common.{◌≡◌, ℕ, ◌+◌, ◌<◌, ◌≤◌, List, [], ◌∷◌, ◌++◌, length, get_or, cond, Option, Some, None, refl, sym, ap, ◌∙◌, subst, arith, inl, inr, ◌⊎◌}
use Rattle.std.specs.Prelude.{count_by, is_none, slice_get, slice_set}
use Rattle.std.proofs.lemmas.Bool.{cases_lt}
use Rattle.std.proofs.lemmas.List.{length-append, length-set}
use Rattle.std.proofs.lemmas.List.Sums.{sum_by-set}
use Rattle.std.proofs.lemmas.Option.{get_or_from_slice_get, none-some, same_Some, slice_get_within}
use Rattle.sd_basics.proofs.Lists.{get_more, get_last, get_cases}
use Rattle.sd_longest.specs.declared.edges.Edge.{Edge}
use Rattle.sd_longest.specs.declared.edges.Effect.{Effect}
use Rattle.sd_longest.specs.declared.edges.Effect.TheVariants.{Opens, Ends, Passes}
use Rattle.sd_longest.specs.declared.labels.Label.{Label}
use Rattle.sd_longest.specs.declared.marking.Marking.{Marking}
use Rattle.sd_longest.specs.Edges.{IsEdge}
use Rattle.sd_longest.specs.Labels.{HasLabel, IsLabelled, IsPassed, IsSourced}
use Rattle.sd_longest.specs.Marking.{AreMarked, HasPassed, IsMarking, IsSame, Keeps, PassesOn, Sets, passed_on}
use Rattle.sd_longest.proofs.ListLemmas.{one_more, one_there, set_cases, set_here, set_other}

-- ---- labels that stay

abbrev pub AreKept : List (Option Label) → List (Option Label) → Type 0
AreKept old new = (i : ℕ) (l : Label) → IsLabelled old i l → IsLabelled new i l

pub has_kept : (old new : List (Option Label)) → AreKept old new → (i k : ℕ) → HasLabel old i k → HasLabel new i k
has_kept old new kept i k has = record { label = has.label; at = kept i has.label has.at; early = has.early }

pub sourced_kept : (rows : List (List Edge)) (old new : List (Option Label)) → AreKept old new → (i : ℕ) (l : Label) → IsSourced rows old i l → IsSourced rows new i l
sourced_kept rows old new kept i l (inl opened) = inl opened
sourced_kept rows old new kept i l (inr p) = inr (record {
  edge = p.edge;
  at = p.at;
  passes = p.passes;
  to = p.to;
  cpu = p.cpu;
  from = p.from;
  labelled = kept l.before p.from p.labelled;
  since = p.since;
  steps = p.steps;
})

pub keeps_twice : (a b c : Marking) → Keeps a b → Keeps b c → Keeps a c
keeps_twice a b c x y = record { labels = λ i l at. y.labels i l (x.labels i l at); order = λ p i at. y.order p i (x.order p i at) }

one_label : (labels : List (Option Label)) (i j : ℕ) (x y : Label) → i ≡ j → IsLabelled labels i x → IsLabelled labels j y → x ≡ y
one_label labels i j x y same a b = same_Some x y (one_there labels i j (Some x) (Some y) same a b)

-- ---- one label more

abbrev pub if_none : Option Label → ℕ
if_none o = cond (is_none o) 1 0

module _ (rows : List (List Edge)) (k : ℕ) (labels : List (Option Label)) (order : List ℕ) (done : ℕ) (m : AreMarked rows k labels order done) (i : ℕ) (l : Label) (free : slice_get labels i ≡ Some None) where
  more_labels : List (Option Label)
  more_labels = slice_set labels i (Some l)

  more_order : List ℕ
  more_order = order ++ i ∷ []

  kept_more : AreKept labels more_labels
  unfolding more_labels
  kept_more j n at = set_other labels i j (Some l) (Some n) (λ same. let other : None ≡ Some n = one_there labels i j None (Some n) (sym same) free at in none-some n other) at

  here_more : IsLabelled more_labels i l
  unfolding more_labels
  here_more = set_here labels i (Some l) (slice_get_within labels i None free)

  -- a label is an old one or the new one
  cases_more : (j : ℕ) (n : Label) → IsLabelled more_labels j n → IsLabelled labels j n ⊎ ((j ≡ i) × (l ≡ n))
  unfolding more_labels
  cases_more j n at = elim (set_cases labels i j (Some l) (Some n) at) [
    | inl before ↦ inl before
    | inr new ↦ inr (new.0, same_Some l n new.1)
  ]

  place_more : (p j : ℕ) → slice_get order p ≡ Some j → slice_get more_order p ≡ Some j
  unfolding more_order
  place_more p j at = get_more order (i ∷ []) p j at

  many_order : length more_order ≡ length order + 1
  unfolding more_order
  many_order = length-append order (i ∷ [])

  taken : (j : ℕ) (n : Label) → IsLabelled labels j n → j ≡ i → ⊥
  taken j n own same = let other : None ≡ Some n = one_there labels i j None (Some n) (sym same) free own in none-some n other

  left_more : count_by is_none more_labels + length more_order ≡ length rows
  unfolding more_labels
  left_more =
      let inside = slice_get_within labels i None free in
      let was = get_or_from_slice_get labels i None None free in
      let one : if_none (get_or labels i None) ≡ 1 = ap if_none was in
      let sums : count_by is_none (slice_set labels i (Some l)) + if_none (get_or labels i None) ≡ count_by is_none labels + 0 = sum_by-set if_none labels i (Some l) None inside in
      let all = m.left in
      let many = many_order in
      omega (arith, sums, one, all, many)

  module _ (since : l.since ≡ k) (sourced : IsSourced rows labels i l) (few : l.steps < length order + 1) where
    late_more : (p j : ℕ) (n : Label) → done ≤ p → slice_get more_order p ≡ Some j → IsLabelled labels j n ⊎ ((j ≡ i) × (l ≡ n)) → k ≤ n.since
    unfolding more_order
    late_more p j n past at (inr new) = let same = ap (λ (x : Label). x.since) new.1 in omega (arith, same, since)
    late_more p j n past at (inl own) = by (get_cases order i j p at)
      where
        by : (slice_get order p ≡ Some j) ⊎ ((p ≡ length order) × (i ≡ j)) → k ≤ n.since
        by (inl before) = m.late p j n past before own
        by (inr last) = absurd (taken j n own (sym last.1))

    passed_more : (p j : ℕ) (n : Label) → p < done → slice_get more_order p ≡ Some j → IsLabelled labels j n ⊎ ((j ≡ i) × (l ≡ n)) → (e : Edge) → IsEdge rows j e → HasPassed more_labels n e
    unfolding more_order
    passed_more p j n less at own e edge passes = by (get_cases order i j p at) own
      where
        by : (slice_get order p ≡ Some j) ⊎ ((p ≡ length order) × (i ≡ j)) → IsLabelled labels j n ⊎ ((j ≡ i) × (l ≡ n)) → HasLabel more_labels e.to n.since
        by (inl before) (inl old) = has_kept labels more_labels kept_more e.to n.since (m.passed p j n less before old e edge passes)
        by (inl before) (inr new) = let was = m.labelled p j before in absurd (taken j was.0 was.1 new.0)
        by (inr last) own = absurd (let place = last.0 in let within = m.within in omega (arith, place, within, less))

    marked_more : AreMarked rows k more_labels more_order done
    unfolding more_labels more_order
    marked_more = record {
      many = length-set labels i (Some l) ∙ m.many;
      left = left_more;
      within = let a = m.within in let b = many_order in omega (arith, a, b);
      sourced = λ j n at. elim (cases_more j n at) [
        | inl before ↦ sourced_kept rows labels more_labels kept_more j n (m.sourced j n before)
        | inr new ↦
            subst (λ (x : Label). IsSourced rows more_labels j x) new.1
            (subst (λ z. IsSourced rows more_labels z l) (sym new.0) (sourced_kept rows labels more_labels kept_more i l sourced))
      ];
      few = λ j n at. elim (cases_more j n at) [
        | inl before ↦ let a = m.few j n before in let b = many_order in omega (arith, a, b)
        | inr new ↦ let same = ap (λ (x : Label). x.steps) new.1 in let b = many_order in omega (arith, same, few, b)
      ];
      early = λ j n at. elim (cases_more j n at) [
        | inl before ↦ m.early j n before
        | inr new ↦ let same = ap (λ (x : Label). x.since) new.1 in omega (arith, same, since)
      ];
      listed = λ j n at. elim (cases_more j n at) [
        | inl before ↦ let p = m.listed j n before in (p.0, place_more p.0 j p.1)
        | inr new ↦ (length order, get_last order i ∙ ap (λ z. Some z) (sym new.0))
      ];
      labelled = λ p j at. elim (get_cases order i j p at) [
        | inl before ↦ let was = m.labelled p j before in (was.0, kept_more j was.0 was.1)
        | inr last ↦ (l, subst (λ z. IsLabelled more_labels z l) last.1 here_more)
      ];
      late = λ p j n past at own. late_more p j n past at (cases_more j n own);
      passed = λ p j n less at own e edge. passed_more p j n less at (cases_more j n own) e edge;
    }

-- a marking after a state was to have a label
pub record IsAfter (rows : List (List Edge)) (k : ℕ) (old new : Marking) (i : ℕ) : Type 0 where
  pub marking : IsMarking rows k new
  pub kept : Keeps old new
  pub done : new.done ≡ old.done
  pub has : HasLabel new.labels.items i k

same_marking : (rows : List (List Edge)) (k : ℕ) (old new : Marking) → IsSame old new → IsMarking rows k old → IsMarking rows k new
same_marking rows k old new same m =
    subst (λ (ls : List (Option Label)). AreMarked rows k ls new.order.items new.done) (sym same.labels)
    (subst (λ (os : List ℕ). AreMarked rows k old.labels.items os new.done) (sym same.order)
    (subst (λ d. AreMarked rows k old.labels.items old.order.items d) (sym same.done) m))

same_kept : (old new : Marking) → IsSame old new → Keeps old new
same_kept old new same = record {
  labels = λ i l at. subst (λ (ls : List (Option Label)). IsLabelled ls i l) (sym same.labels) at;
  order = λ p i at. subst (λ (os : List ℕ). slice_get os p ≡ Some i) (sym same.order) at;
}

pub after_set : (rows : List (List Edge)) (k : ℕ) (old new : Marking) (i : ℕ) (l : Label) → IsMarking rows k old → l.since ≡ k → IsSourced rows old.labels.items i l → l.steps < length old.order.items + 1 → Sets old new i l
    → IsAfter rows k old new i
unfolding more_labels more_order
after_set rows k old new i l m since sourced few (inl set) =
    let ls = old.labels.items in
    let os = old.order.items in
    let all : AreMarked rows k (slice_set ls i (Some l)) (os ++ i ∷ []) old.done = marked_more rows k ls os old.done m i l set.free since sourced few in
    record {
      marking =
          subst (λ (xs : List (Option Label)). AreMarked rows k xs new.order.items new.done) (sym set.labels)
          (subst (λ (xs : List ℕ). AreMarked rows k (slice_set ls i (Some l)) xs new.done) (sym set.order)
          (subst (λ d. AreMarked rows k (slice_set ls i (Some l)) (os ++ i ∷ []) d) (sym set.done) all));
      kept = record {
        labels = λ j n at. subst (λ (xs : List (Option Label)). IsLabelled xs j n) (sym set.labels) (kept_more rows k ls os old.done m i l set.free j n at);
        order = λ p j at. subst (λ (xs : List ℕ). slice_get xs p ≡ Some j) (sym set.order) (place_more rows k ls os old.done m i l set.free p j at);
      };
      done = set.done;
      has = record {
        label = l;
        at = subst (λ (xs : List (Option Label)). IsLabelled xs i l) (sym set.labels) (here_more rows k ls os old.done m i l set.free);
        early = omega (arith, since);
      };
    }
after_set rows k old new i l m since sourced few (inr (same, had)) = record {
  marking = same_marking rows k old new same m;
  kept = same_kept old new same;
  done = same.done;
  has = record {
    label = had.0;
    at = subst (λ (ls : List (Option Label)). IsLabelled ls i had.0) (sym same.labels) had.1;
    early = m.early i had.0 had.1;
  };
}

-- ---- the edges of one state

module _ (rows : List (List Edge)) (k i : ℕ) (label : Label) (row : List Edge) where
  -- the wait of the state has passed along the first q edges
  pub record IsExpanding (q : ℕ) (old new : Marking) : Type 0 where
    pub marking : IsMarking rows k new
    pub kept : Keeps old new
    pub done : new.done ≡ old.done
    pub own : IsLabelled new.labels.items i label
    pub here : (p : ℕ) (e : Edge) → p < q → slice_get row p ≡ Some e → HasPassed new.labels.items label e

  -- the label has tick k
  pub since_there : (q : ℕ) (old now : Marking) → slice_get old.order.items old.done ≡ Some i → IsExpanding q old now → label.since ≡ k
  since_there q old now first x =
      let early = x.marking.early i label x.own in
      let same = x.done in
      let late = x.marking.late old.done i label (omega (arith, same)) (x.kept.order old.done i first) x.own in
      omega (arith, early, late)

  module _ (row_at : slice_get rows i ≡ Some row) (q : ℕ) (e : Edge) (at : slice_get row q ≡ Some e) (old now new : Marking) (x : IsExpanding q old now) (since : label.since ≡ k) where
    ends_here : IsSame now new → e.effect ≡ Ends → IsExpanding (q + 1) old new
    ends_here same ends = record {
      marking = same_marking rows k now new same x.marking;
      kept = keeps_twice old now new x.kept (same_kept now new same);
      done = same.done ∙ x.done;
      own = (same_kept now new same).labels i label x.own;
      here = one_more row q e (λ d. HasPassed new.labels.items label d) at
          (λ p d few there passes. has_kept now.labels.items new.labels.items (same_kept now new same).labels d.to label.since (x.here p d few there passes)) (λ passes. absurd (passes ends));
    }

    goes_on : Sets now new e.to (passed_on i label e) → (e.effect ≡ Ends → ⊥) → IsExpanding (q + 1) old new
    goes_on sets passes =
        let few = x.marking.few i label x.own in
        let from : IsPassed rows now.labels.items e.to (passed_on i label e) = record {
          edge = e;
          at = record { row = row; row_at = row_at; place = q; at = at };
          passes = passes;
          to = refl;
          cpu = refl;
          from = label;
          labelled = x.own;
          since = refl;
          steps = refl;
        } in
        let a = after_set rows k now new e.to (passed_on i label e) x.marking since (inr from) (omega (arith, few)) sets in
        record {
          marking = a.marking;
          kept = keeps_twice old now new x.kept a.kept;
          done = a.done ∙ x.done;
          own = a.kept.labels i label x.own;
          here = one_more row q e (λ d. HasPassed new.labels.items label d) at
              (λ p d few there passes. has_kept now.labels.items new.labels.items a.kept.labels d.to label.since (x.here p d few there passes))
              (λ passes. record { label = a.has.label; at = a.has.at; early = let b = a.has.early in omega (arith, b, since) });
        }

    pub expanding_more : PassesOn now new i label e e.effect → IsExpanding (q + 1) old new
    expanding_more passed = by e.effect refl passed
      where
        by : (t : Effect) → e.effect ≡ t → PassesOn now new i label e t → IsExpanding (q + 1) old new
        by Ends is same = ends_here same is
        by Opens is sets = goes_on sets (λ ends. cc)
        by Passes is sets = goes_on sets (λ ends. cc)

  -- and along all
  pub expanded : slice_get rows i ≡ Some row → (q : ℕ) (old now : Marking) → length row ≤ q → slice_get old.order.items old.done ≡ Some i → IsExpanding q old now → AreMarked rows k now.labels.items now.order.items (now.done + 1)
  expanded row_at q old now all first x =
      let m = x.marking in
      let here : slice_get now.order.items now.done ≡ Some i = ap (slice_get now.order.items) x.done ∙ x.kept.order old.done i first in
      record {
        many = m.many;
        left = m.left;
        within = let within = slice_get_within now.order.items now.done i here in omega (arith, within);
        sourced = m.sourced;
        few = m.few;
        early = m.early;
        listed = m.listed;
        labelled = m.labelled;
        late = λ p j n past at own. m.late p j n (omega (arith, past)) at own;
        passed = λ p j n few at own e edge. by here p j n few at own e edge (cases_lt p now.done);
      }
    where
      by : slice_get now.order.items now.done ≡ Some i → (p j : ℕ) (n : Label) → p < now.done + 1 → slice_get now.order.items p ≡ Some j → IsLabelled now.labels.items j n → (e : Edge) → IsEdge rows j e
          → (p < now.done) ⊎ (now.done ≤ p) → HasPassed now.labels.items n e
      by here p j n few at own e edge (inl less) = x.marking.passed p j n less at own e edge
      by here p j n few at own e edge (inr past) =
          let state : i ≡ j = one_there now.order.items now.done p i j (omega (arith, few, past)) here at in
          let is : label ≡ n = one_label now.labels.items i j label n state x.own own in
          let one : row ≡ edge.row = one_there rows i j row edge.row state row_at edge.row_at in
          let there : slice_get row edge.place ≡ Some e = ap (λ (r : List Edge). slice_get r edge.place) one ∙ edge.at in
          let within = slice_get_within row edge.place e there in
          subst (λ (z : Label). HasPassed now.labels.items z e) is (x.here edge.place e (omega (arith, within, all)) there)
