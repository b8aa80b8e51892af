-- The height of a state by its edges, one after another.
use Rattle.std.proofs.Common.{◌≡◌, ℕ, ◌+◌, ◌<◌, ◌≤◌, List, length, Some, sym, ap, ◌∙◌, subst, inl, inr, ◌⊎◌, arith}
use Rattle.std.specs.Prelude.{slice_get, slice_index}
use Rattle.std.proofs.lemmas.Bool.{cases_lt}
use Rattle.std.proofs.lemmas.Option.{same_Some, slice_get_within}
use Rattle.sd_longest.specs.declared.edges.Edge.{Edge}
use Rattle.sd_longest.specs.Heights.{IsHeight}

-- by the first n edges
pub record IsHeightSoFar (hs : List ℕ) (row : List Edge) (n k : ℕ) : Type 0 where
  pub above : (place : ℕ) (e : Edge) → place < n → slice_get row place ≡ Some e → slice_index hs e.to + 1 ≤ k
  pub made : (k ≡ 0) ⊎ ((place : ℕ) × (e : Edge) × (slice_get row place ≡ Some e) × (k ≡ slice_index hs e.to + 1))

module _ (hs : List ℕ) (row : List Edge) where
  pub one_more : (n k m : ℕ) (e : Edge) → slice_get row n ≡ Some e → k ≤ m → slice_index hs e.to + 1 ≤ m → (m ≡ k) ⊎ (m ≡ slice_index hs e.to + 1)
      → IsHeightSoFar hs row n k → IsHeightSoFar hs row (n + 1) m
  one_more n k m e at least over one so_far = record { above = λ place f less there. by place f less there (cases_lt place n); made = made one so_far.made }
    where
      by : (place : ℕ) (f : Edge) → place < n + 1 → slice_get row place ≡ Some f → (place < n) ⊎ (n ≤ place) → slice_index hs f.to + 1 ≤ m
      by place f less there (inl before) = let old = so_far.above place f before there in omega (arith, old, least)
      by place f less there (inr behind) =
          let same : place ≡ n = omega (arith, less, behind) in
          let is : f ≡ e = same_Some f e (sym there ∙ ap (slice_get row) same ∙ at) in
          subst (λ (x : Edge). slice_index hs x.to + 1 ≤ m) (sym is) over

      made : (m ≡ k) ⊎ (m ≡ slice_index hs e.to + 1) → (k ≡ 0) ⊎ ((place : ℕ) × (f : Edge) × (slice_get row place ≡ Some f) × (k ≡ slice_index hs f.to + 1))
          → (m ≡ 0) ⊎ ((place : ℕ) × (f : Edge) × (slice_get row place ≡ Some f) × (m ≡ slice_index hs f.to + 1))
      made (inr new) old = inr (n, e, at, new)
      made (inl same) (inl none) = inl (same ∙ none)
      made (inl same) (inr (place, f, there, is)) = inr (place, f, there, same ∙ is)

  pub all_of : (n k : ℕ) → length row ≤ n → IsHeightSoFar hs row n k → IsHeight hs row k
  all_of n k all so_far = record {
    above = λ place e at. so_far.above place e (let inside = slice_get_within row place e at in omega (arith, inside, all)) at;
    made = so_far.made;
  }
