-- The best candidate, and that its wait is a longest one.
use Rattle.std.proofs.Common.{◌≡◌, ℕ, ◌+◌, ◌-◌, ◌<◌, ◌≤◌, List, length, Option, Some, None, refl, sym, ap, ◌∙◌, subst, arith, inl, inr, ◌⊎◌}
use Rattle.std.specs.Prelude.{slice_get}
use Rattle.std.proofs.lemmas.Bool.{cases_lt}
use Rattle.std.proofs.lemmas.Option.{same_Some, slice_get_within}
use Rattle.sd_longest.specs.declared.edges.Edge.{Edge}
use Rattle.sd_longest.specs.declared.edges.Effect.{Effect}
use Rattle.sd_longest.specs.declared.edges.Effect.TheVariants.{Opens, Ends, Passes}
use Rattle.sd_longest.specs.declared.labels.Label.{Label}
use Rattle.sd_longest.specs.declared.longest.Candidate.{Candidate}
use Rattle.sd_longest.specs.Candidates.{HasTicks, IsBest, IsBestBelow, IsBestOf, IsBestWith, IsCandidateIf, candidate_of}
use Rattle.sd_longest.specs.Edges.{IsEdge, IsWait}
use Rattle.sd_longest.specs.Labels.{IsLabelled, IsLabelling}
use Rattle.sd_longest.proofs.LabelLemmas.{open_there}
use Rattle.sd_longest.proofs.ListLemmas.{one_more, one_there}

module _ (rows : List (List Edge)) (labels : List (Option Label)) where
  -- the best of the states before, and of the first q edges of a row
  pub record IsBestAlong (i : ℕ) (label : Label) (row : List Edge) (q : ℕ) (best : Option Candidate) : Type 0 where
    pub is : IsCandidateIf rows labels best
    pub before : (j : ℕ) (l : Label) (e : Edge) → j < i → IsLabelled labels j l → IsEdge rows j e → e.effect ≡ Ends → HasTicks best (e.tick - l.since)
    pub here : (p : ℕ) (e : Edge) → p < q → slice_get row p ≡ Some e → e.effect ≡ Ends → HasTicks best (e.tick - label.since)

  module _ (i : ℕ) (label : Label) (row : List Edge) (q : ℕ) (e : Edge) (row_at : slice_get rows i ≡ Some row) (at : slice_get row q ≡ Some e) (labelled : IsLabelled labels i label) where
    stays : (old new : Option Candidate) → new ≡ old → (e.effect ≡ Ends → ⊥) → IsBestAlong i label row q old → IsBestAlong i label row (q + 1) new
    stays old new same none b =
        subst (λ (o : Option Candidate). IsBestAlong i label row (q + 1) o) (sym same)
        (record { is = b.is; before = b.before; here = one_more row q e (λ d. d.effect ≡ Ends → HasTicks old (d.tick - label.since)) at b.here (λ ends. absurd (none ends)) })

    one_of : (old new : Option Candidate) → IsBest old (candidate_of i label e) new → e.effect ≡ Ends → IsCandidateIf rows labels old → IsCandidateIf rows labels new
    one_of old new best ends is = by best.one
      where
        by : (new ≡ old) ⊎ (new ≡ Some (candidate_of i label e)) → IsCandidateIf rows labels new
        by (inl same) = subst (λ (o : Option Candidate). IsCandidateIf rows labels o) (sym same) is
        by (inr one) =
            subst (λ (o : Option Candidate). IsCandidateIf rows labels o) (sym one)
            (record { label = label; labelled = labelled; edge = e; at = record { row = row; row_at = row_at; place = q; at = at }; ends = ends; cpu = refl; ticks = refl })

    grows : (old new : Option Candidate) → IsBest old (candidate_of i label e) new → e.effect ≡ Ends → IsBestAlong i label row q old → IsBestAlong i label row (q + 1) new
    grows old new best ends b = record {
      is = one_of old new best ends b.is;
      before = λ j l d less labelled at ends. best.kept (d.tick - l.since) (b.before j l d less labelled at ends);
      here = one_more row q e (λ d. d.effect ≡ Ends → HasTicks new (d.tick - label.since)) at
          (λ p d few there ends. best.kept (d.tick - label.since) (b.here p d few there ends)) (λ _. best.ticks);
    }

    pub along_more : (old new : Option Candidate) → IsBestWith old i label e e.effect new → IsBestAlong i label row q old → IsBestAlong i label row (q + 1) new
    along_more old new best b = by e.effect refl best
      where
        by : (t : Effect) → e.effect ≡ t → IsBestWith old i label e t new → IsBestAlong i label row (q + 1) new
        by Ends is best = grows old new best is b
        by Opens is same = stays old new same (λ ends. cc) b
        by Passes is same = stays old new same (λ ends. cc) b

  pub along_last : (i : ℕ) (label : Label) (row : List Edge) (q : ℕ) (best : Option Candidate) → slice_get rows i ≡ Some row → IsLabelled labels i label → length row ≤ q → IsBestAlong i label row q best
      → IsBestBelow rows labels (i + 1) best
  along_last i label row q best row_at labelled all b = record { is = b.is; each = λ j l e few own at ends. by j l e few own at ends (cases_lt j i) }
    where
      by : (j : ℕ) (l : Label) (e : Edge) → j < i + 1 → IsLabelled labels j l → IsEdge rows j e → e.effect ≡ Ends → (j < i) ⊎ (i ≤ j) → HasTicks best (e.tick - l.since)
      by j l e few own at ends (inl less) = b.before j l e less own at ends
      by j l e few own at ends (inr past) =
          let same : i ≡ j = omega (arith, few, past) in
          let here : row ≡ at.row = one_there rows i j row at.row same row_at at.row_at in
          let there : slice_get row at.place ≡ Some e = ap (λ (r : List Edge). slice_get r at.place) here ∙ at.at in
          let is : label ≡ l = same_Some label l (one_there labels i j (Some label) (Some l) same labelled own) in
          let within = slice_get_within row at.place e there in
          subst (λ (x : Label). HasTicks best (e.tick - x.since)) is (b.here at.place e (omega (arith, within, all)) there ends)

  -- a wait has no more ticks than the best candidate
  pub no_longer : (best : Option Candidate) → IsLabelling rows labels → IsBestOf rows labels best → (i : ℕ) (a : Edge) (bs : List Edge) (c : Edge) → IsWait rows i a bs c → HasTicks best (c.tick - a.tick)
  no_longer best is b i a bs c w =
      let has = open_there rows labels is i a bs c w in
      let early = has.early in
      fewer best (c.tick - has.label.since) (c.tick - a.tick) (omega (arith, early)) (b.each w.state has.label c has.at w.ending_at w.ends)
    where
      fewer : (o : Option Candidate) (m n : ℕ) → n ≤ m → HasTicks o m → HasTicks o n
      fewer (Some x) m n le has = omega (arith, le, has)
      fewer None m n le has = has
