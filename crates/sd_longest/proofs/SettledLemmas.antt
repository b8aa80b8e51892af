-- The edges that open waits taken in the order of their ticks, and what this comes to.
use Rattle.std.proofs.Common.{◌≡◌, ℕ, ◌+◌, ◌*◌, ◌<◌, ◌≤◌, List, [], length, Option, Some, None, refl, sym, ap, ◌∙◌, subst, arith, inl}
use Rattle.std.specs.Prelude.{count_by, is_none, replicate, slice_get}
use Rattle.std.specs.List.Sorted.{IsNonDecreasingBy}
use Rattle.std.proofs.lemmas.List.{length-replicate}
use Rattle.std.proofs.lemmas.List.Elements.{All-get_or, All-replicate}
use Rattle.std.proofs.lemmas.List.Folds.{sum_by-replicate}
use Rattle.std.proofs.lemmas.Option.{get_or_from_slice_get, none-some, slice_get_within}
use Rattle.sd_longest.specs.declared.edges.Edge.{Edge}
use Rattle.sd_longest.specs.declared.edges.Effect.TheVariants.{Opens}
use Rattle.sd_longest.specs.declared.labels.Label.{Label}
use Rattle.sd_longest.specs.declared.marking.Marking.{Marking}
use Rattle.sd_longest.specs.declared.openings.Opening.{Opening}
use Rattle.sd_longest.specs.Edges.{IsEdge}
use Rattle.sd_longest.specs.Labels.{HasLabel, IsLabelled, IsLabelling}
use Rattle.sd_longest.specs.Marking.{AreMarked, IsMarking, Keeps, Sets}
use Rattle.sd_longest.specs.Openings.{AreOpenings}
use Rattle.sd_longest.proofs.ListLemmas.{at_of, one_more}
use Rattle.sd_longest.proofs.MarkLemmas.{IsAfter, after_set, has_kept, if_none}

module _ (rows : List (List Edge)) where
  -- no labels
  nothing : (i : ℕ) (l : Label) → IsLabelled (replicate (length rows) None) i l → ⊥
  nothing i l at =
      let none : List (Option Label) = replicate (length rows) None in
      let is = All-get_or (λ (o : Option Label). o ≡ None) none i (Some l) (slice_get_within none i (Some l) at) (All-replicate (λ (o : Option Label). o ≡ None) (length rows) None refl) in
      none-some l (sym is ∙ get_or_from_slice_get none i (Some l) (Some l) at)

  none_marked : AreMarked rows 0 (replicate (length rows) None) [] 0
  none_marked =
      let none : List (Option Label) = replicate (length rows) None in
      record {
        many = length-replicate (length rows) None;
        left = let all : count_by is_none none ≡ length rows * 1 = sum_by-replicate if_none (length rows) None in omega (arith, all);
        within = omega arith;
        sourced = λ i l at. absurd (nothing i l at);
        few = λ i l at. absurd (nothing i l at);
        early = λ i l at. absurd (nothing i l at);
        listed = λ i l at. absurd (nothing i l at);
        labelled = λ p i at. absurd (none-some i at);
        late = λ p i l past at own. absurd (nothing i l own);
        passed = λ p i l few at own e edge. absurd (nothing i l own);
      }

  pub unmarked_is : (m : Marking) → m.labels.items ≡ replicate (length rows) None → m.order.items ≡ [] → m.done ≡ 0 → IsMarking rows 0 m
  unmarked_is m labels order done =
      subst (λ (ls : List (Option Label)). AreMarked rows 0 ls m.order.items m.done) (sym labels)
      (subst (λ (os : List ℕ). AreMarked rows 0 (replicate (length rows) None) os m.done) (sym order)
      (subst (λ d. AreMarked rows 0 (replicate (length rows) None) [] d) (sym done) none_marked))

  -- where each state has passed its wait on, a later tick may follow
  pub later : (j k : ℕ) (m : Marking) → j ≤ k → m.done ≡ length m.order.items → IsMarking rows j m → IsMarking rows k m
  later j k m le all is = record {
    many = is.many;
    left = is.left;
    within = is.within;
    sourced = is.sourced;
    few = is.few;
    early = λ i l at. let early = is.early i l at in omega (arith, early, le);
    listed = is.listed;
    labelled = is.labelled;
    late = λ p i l past at own. absurd (let within = slice_get_within m.order.items p i at in omega (arith, within, past, all));
    passed = is.passed;
  }

  -- the edge that opens a wait leads to a state that has a label
  pub open_set : (o : Opening) (old new : Marking) → IsMarking rows o.edge.tick old → IsEdge rows o.from o.edge → o.edge.effect ≡ Opens
      → Sets old new o.edge.to (record { since = o.edge.tick; before = o.from; cpu = o.edge.cpu; steps = 0 }) → IsAfter rows o.edge.tick old new o.edge.to
  open_set o old new is at opens sets =
      after_set rows o.edge.tick old new o.edge.to (record { since = o.edge.tick; before = o.from; cpu = o.edge.cpu; steps = 0 }) is refl
      (inl (refl, record { edge = o.edge; at = at; opens = opens; to = refl; tick = refl; cpu = refl })) (omega arith) sets

  -- the first q openings have been taken
  pub record IsSettled (openings : List Opening) (q : ℕ) (m : Marking) : Type 0 where
    pub least : ℕ
    pub marking : IsMarking rows least m
    pub all : m.done ≡ length m.order.items
    pub rising : (p : ℕ) (o : Opening) → q ≤ p → slice_get openings p ≡ Some o → least ≤ o.edge.tick
    pub opened : (p : ℕ) (o : Opening) → p < q → slice_get openings p ≡ Some o → HasLabel m.labels.items o.edge.to o.edge.tick

  pub settled_first : (openings : List Opening) (m : Marking) → IsMarking rows 0 m → m.done ≡ length m.order.items → IsSettled openings 0 m
  settled_first openings m is all = record { least = 0; marking = is; all = all; rising = λ p o past at. omega arith; opened = λ p o few. absurd (omega (arith, few)) }

  pub settled_more : (openings : List Opening) (q : ℕ) (o : Opening) (old new : Marking) → IsNonDecreasingBy (λ x. x.edge.tick) openings → slice_get openings q ≡ Some o
      → IsMarking rows o.edge.tick new → Keeps old new → new.done ≡ length new.order.items → HasLabel new.labels.items o.edge.to o.edge.tick → IsSettled openings q old → IsSettled openings (q + 1) new
  settled_more openings q o old new sorted at is kept all has s = record {
    least = o.edge.tick;
    marking = is;
    all = all;
    rising = λ p x past there.
        let within = slice_get_within openings p x there in
        let low = ap (λ (y : Opening). y.edge.tick) (get_or_from_slice_get openings q o o at) in
        let high = ap (λ (y : Opening). y.edge.tick) (get_or_from_slice_get openings p x o there) in
        let le = sorted q p o (omega (arith, past)) within in
        omega (arith, low, high, le);
    opened = one_more openings q o (λ x. HasLabel new.labels.items x.edge.to x.edge.tick) at (λ p x few there. has_kept old.labels.items new.labels.items kept.labels x.edge.to x.edge.tick (s.opened p x few there)) has;
  }

  -- once all have been taken the labels are the least
  pub labelling_of : (openings : List Opening) (q : ℕ) (m : Marking) → AreOpenings rows openings → length openings ≤ q → IsSettled openings q m → IsLabelling rows m.labels.items
  labelling_of openings q m are past s = record {
    many = s.marking.many;
    sourced = s.marking.sourced;
    opened = λ i e at opens.
        let o : Opening = record { from = i; edge = e } in
        let there = at_of openings o (are.all o (record { edge = at; opens = opens })) in
        let within = slice_get_within openings there.0 o there.1 in
        s.opened there.0 o (omega (arith, within, past)) there.1;
    passed = λ i l e own at passes.
        let place = s.marking.listed i l own in
        let within = slice_get_within m.order.items place.0 i place.1 in
        let all = s.all in
        s.marking.passed place.0 i l (omega (arith, within, all)) place.1 own e at passes;
  }
