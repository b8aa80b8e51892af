-- Since when a wait may be open in each state: the least tick, and the last edge of a walk along which one comes there.
-- Source: shortest paths in rising order of distance (Dijkstra, "A Note on Two Problems in Connexion with Graphs", 1959), where
-- the edge that opens a wait has its tick for a length, and each that follows the length 0.
use Rattle.std.specs.Prelude.{◌≡◌, ℕ, ◌+◌, ◌≤◌, ◌⊎◌, List, length, slice_get, Option, Some}
use Rattle.sd_longest.specs.declared.edges.Edge.{Edge}
use Rattle.sd_longest.specs.declared.edges.Effect.TheVariants.{Opens, Ends}
use Rattle.sd_longest.specs.declared.labels.Label.{Label}
use Rattle.sd_longest.specs.Edges.{IsEdge}

abbrev pub IsLabelled : List (Option Label) → ℕ → Label → Type 0
IsLabelled labels i l = slice_get labels i ≡ Some (Some l)

-- a wait since this tick, or an earlier one, may be open in state number i
pub record HasLabel (labels : List (Option Label)) (i k : ℕ) : Type 0 where
  pub label : Label
  pub at : IsLabelled labels i label
  pub early : label.since ≤ k

-- the edge that opens the wait leads to state number i
pub record IsOpened (rows : List (List Edge)) (i : ℕ) (l : Label) : Type 0 where
  pub edge : Edge
  pub at : IsEdge rows l.before edge
  pub opens : edge.effect ≡ Opens
  pub to : edge.to ≡ i
  pub tick : edge.tick ≡ l.since
  pub cpu : edge.cpu ≡ l.cpu

-- the wait of another state passes to state number i
pub record IsPassed (rows : List (List Edge)) (labels : List (Option Label)) (i : ℕ) (l : Label) : Type 0 where
  pub edge : Edge
  pub at : IsEdge rows l.before edge
  pub passes : edge.effect ≡ Ends → ⊥
  pub to : edge.to ≡ i
  pub cpu : edge.cpu ≡ l.cpu
  pub from : Label
  pub labelled : IsLabelled labels l.before from
  pub since : from.since ≡ l.since
  pub steps : l.steps ≡ from.steps + 1

abbrev pub IsSourced : List (List Edge) → List (Option Label) → ℕ → Label → Type 0
IsSourced rows labels i l = ((l.steps ≡ 0) × IsOpened rows i l) ⊎ IsPassed rows labels i l

-- no wait may be open in any state since an earlier tick than its label has
pub record IsLabelling (rows : List (List Edge)) (labels : List (Option Label)) : Type 0 where
  pub many : length labels ≡ length rows
  pub sourced : (i : ℕ) (l : Label) → IsLabelled labels i l → IsSourced rows labels i l
  pub opened : (i : ℕ) (e : Edge) → IsEdge rows i e → e.effect ≡ Opens → HasLabel labels e.to e.tick
  pub passed : (i : ℕ) (l : Label) (e : Edge) → IsLabelled labels i l → IsEdge rows i e → (e.effect ≡ Ends → ⊥) → HasLabel labels e.to l.since
