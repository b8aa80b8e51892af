-- The edges that open waits.
-- Source: this project's own.
use Rattle.std.specs.Prelude.{◌≡◌, ℕ, ◌<◌, List, [], ◌∷◌, ◌++◌}
use Rattle.std.specs.List.{Contains}
use Rattle.sd_longest.specs.declared.edges.Edge.{Edge}
use Rattle.sd_longest.specs.declared.edges.Effect.{Effect}
use Rattle.sd_longest.specs.declared.edges.Effect.TheVariants.{Opens}
use Rattle.sd_longest.specs.declared.openings.Opening.{Opening}
use Rattle.sd_longest.specs.Edges.{IsEdge}

-- an edge of the graph that opens a wait
pub record IsOpening (rows : List (List Edge)) (o : Opening) : Type 0 where
  pub edge : IsEdge rows o.from o.edge
  pub opens : o.edge.effect ≡ Opens

-- those in the list are, and each from one of the first n states is in it
pub record AreOpeningsBelow (rows : List (List Edge)) (n : ℕ) (found : List Opening) : Type 0 where
  pub are : (o : Opening) → Contains found o → IsOpening rows o
  pub all : (o : Opening) → o.from < n → IsOpening rows o → Contains found o

-- or each is in it
pub record AreOpenings (rows : List (List Edge)) (found : List Opening) : Type 0 where
  pub are : (o : Opening) → Contains found o → IsOpening rows o
  pub all : (o : Opening) → IsOpening rows o → Contains found o

-- the edge is one more where its effect is this one
abbrev pub HasMore : List Opening → List Opening → ℕ → Edge → Effect → Type 0
HasMore old new from e Opens = new ≡ old ++ (record { from = from; edge = e }) ∷ []
HasMore old new from e _ = new ≡ old
