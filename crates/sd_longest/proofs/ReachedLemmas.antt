-- Heights that rise: none is more than edges follow one another.
use Rattle.std.proofs.Common.{◌≡◌, ◌≢◌, ℕ, zero, suc, ◌+◌, ◌<◌, ◌≤◌, List, [], ◌∷◌, length, Some, refl, sym, ap, ◌∙◌, subst, inl, inr, ◌⊎◌, arith, length-set}
use Rattle.std.proofs.lemmas.Bool.{cases_lt}
use Rattle.std.proofs.lemmas.List.{get_or-set_other, get_or-set_same}
use Rattle.std.specs.Prelude.{slice_get, slice_index, slice_set}
use Rattle.sd_longest.specs.declared.edges.Edge.{Edge}
use Rattle.sd_longest.specs.Edges.{Follow, HasWay, IsEdge}
use Rattle.sd_longest.specs.Heights.{AreReached, IsHeight}

module _ (rows : List (List Edge)) where
  no_way : (i : ℕ) → HasWay rows i 0
  unfolding Follow
  no_way i = record { edges = []; follow = tt; many = omega arith }

  pub shorter : (i m n : ℕ) → m ≤ n → HasWay rows i n → HasWay rows i m
  shorter i m n less way = let many = way.many in record { edges = way.edges; follow = way.follow; many = omega (arith, less, many) }

  further : (i n : ℕ) (e : Edge) → IsEdge rows i e → HasWay rows e.to n → HasWay rows i (n + 1)
  unfolding Follow
  further i n e at way = let many = way.many in record { edges = e ∷ way.edges; follow = (at, way.follow); many = omega (arith, many) }

  -- a height that the next states give
  pub given : (hs : List ℕ) (i k : ℕ) (row : List Edge) → slice_get rows i ≡ Some row → AreReached rows hs → ((j : ℕ) (e : Edge) → IsEdge rows j e → e.to < length rows) → IsHeight hs row k → HasWay rows i k
  given hs i k row row_at reached inside is = by is.made
    where
      by : (k ≡ 0) ⊎ ((place : ℕ) × (e : Edge) × (slice_get row place ≡ Some e) × (k ≡ slice_index hs e.to + 1)) → HasWay rows i k
      by (inl none) = subst (HasWay rows i) (sym none) (no_way i)
      by (inr (place, e, there, above)) =
          let at : IsEdge rows i e = record { row = row; row_at = row_at; place = place; at = there } in
          let lead = inside i e at in
          let many = reached.many in
          subst (HasWay rows i) (sym above) (further i (slice_index hs e.to) e at (reached.each e.to (omega (arith, lead, many))))

  pub lowest : (hs : List ℕ) → length hs ≡ length rows → ((i : ℕ) → i < length hs → slice_index hs i ≡ 0) → AreReached rows hs
  lowest hs many zeros = record { many = many; each = λ i inside. subst (HasWay rows i) (sym (zeros i inside)) (no_way i) }

  -- one state gets a height
  pub raised : (hs : List ℕ) (i k : ℕ) → i < length hs → HasWay rows i k → AreReached rows hs → AreReached rows (slice_set hs i k)
  raised hs i k inside way old = record {
    many = length-set hs i k ∙ old.many;
    each = λ j within. by j (let same = length-set hs i k in let is : j < length hs = omega (arith, within, same) in is) (cases_lt j i) (cases_lt i j);
  }
    where
      other : (j : ℕ) → j < length hs → j ≢ i → HasWay rows j (slice_index (slice_set hs i k) j)
      other j within differ = subst (HasWay rows j) (sym (get_or-set_other hs i j k 0 differ)) (old.each j within)

      by : (j : ℕ) → j < length hs → (j < i) ⊎ (i ≤ j) → (i < j) ⊎ (j ≤ i) → HasWay rows j (slice_index (slice_set hs i k) j)
      by j within (inl less) more = other j within (λ same. absurd (omega (arith, less, same)))
      by j within (inr least) (inl less) = other j within (λ same. absurd (omega (arith, less, same)))
      by j within (inr least) (inr most) =
          let same : j ≡ i = omega (arith, least, most) in
          subst (λ n. HasWay rows n (slice_index (slice_set hs i k) n)) (sym same) (subst (HasWay rows i) (sym (get_or-set_same hs i k 0 inside)) way)

  -- where the first state is too high, so many edges follow one another from it
  pub too_high : (hs : List ℕ) → AreReached rows hs → 0 < length hs → (4294967295 ≤ slice_index hs 0) ⊎ (length hs ≤ slice_index hs 0) → HasWay rows 0 4294967295 ⊎ HasWay rows 0 (length rows)
  too_high hs reached some (inl great) = inl (shorter 0 4294967295 (slice_index hs 0) great (reached.each 0 some))
  too_high hs reached some (inr round) = inr (shorter 0 (length rows) (slice_index hs 0) (let many = reached.many in omega (arith, many, round)) (reached.each 0 some))
