-- The heights of the states of a graph: how many edges follow one another from each at most. They are told by the next states alone: a
-- state without edges has height 0, and each other one more than the highest state that an edge leads to.
-- Source: longest ways in graphs without circles (Cormen, Leiserson, Rivest and Stein, "Introduction to Algorithms").
use Rattle.std.specs.Prelude.{◌≡◌, ℕ, ◌+◌, ◌<◌, ◌≤◌, ◌⊎◌, List, length, slice_get, slice_index, Option, Some, None, Vec, ⊤}
use Rattle.std.specs.declared.alloc.Global.{Global}
use Rattle.sd_longest.specs.declared.edges.Edge.{Edge}
use Rattle.sd_longest.specs.Edges.{HasWay}

-- each of the edges leads to one of the first n states
abbrev pub LeadBelow : List Edge → ℕ → Type 0
LeadBelow row n = (place : ℕ) (e : Edge) → slice_get row place ≡ Some e → e.to < n

-- a state with these edges is above each that they lead to, and by one above one of them, where there are any
pub record IsHeight (hs : List ℕ) (row : List Edge) (k : ℕ) : Type 0 where
  pub above : (place : ℕ) (e : Edge) → slice_get row place ≡ Some e → slice_index hs e.to + 1 ≤ k
  pub made : (k ≡ 0) ⊎ ((place : ℕ) × (e : Edge) × (slice_get row place ≡ Some e) × (k ≡ slice_index hs e.to + 1))

pub record AreHeights (rows : List (List Edge)) (hs : List ℕ) : Type 0 where
  pub many : length hs ≡ length rows
  pub each : (i : ℕ) (row : List Edge) → slice_get rows i ≡ Some row → IsHeight hs row (slice_index hs i)

-- no height is more than edges follow one another
pub record AreReached (rows : List (List Edge)) (hs : List ℕ) : Type 0 where
  pub many : length hs ≡ length rows
  pub each : (i : ℕ) → i < length hs → HasWay rows i (slice_index hs i)

-- where the heights of all states are not told, so many edges follow one another from the first as could not be told, or as there are states
abbrev pub AreUntold : List (List Edge) → Option (Vec ℕ Global) → Type 0
AreUntold rows (Some hs) = ⊤
AreUntold rows None = HasWay rows 0 4294967295 ⊎ HasWay rows 0 (length rows)
