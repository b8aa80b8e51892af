-- The ends of waits, and the best of them: the end of a longest one.
-- Source: this project's own.
use Rattle.std.specs.Prelude.{◌≡◌, ℕ, ◌-◌, ◌<◌, ◌≤◌, ◌⊎◌, List, Option, Some, None, ⊤}
use Rattle.sd_longest.specs.declared.edges.Edge.{Edge}
use Rattle.sd_longest.specs.declared.edges.Effect.{Effect}
use Rattle.sd_longest.specs.declared.edges.Effect.TheVariants.{Ends}
use Rattle.sd_longest.specs.declared.labels.Label.{Label}
use Rattle.sd_longest.specs.declared.longest.Candidate.{Candidate}
use Rattle.sd_longest.specs.Edges.{IsEdge}
use Rattle.sd_longest.specs.Labels.{IsLabelled}

-- from the labelled state an edge of the processor ends its wait
pub record IsCandidate (rows : List (List Edge)) (labels : List (Option Label)) (c : Candidate) : Type 0 where
  pub label : Label
  pub labelled : IsLabelled labels c.state label
  pub edge : Edge
  pub at : IsEdge rows c.state edge
  pub ends : edge.effect ≡ Ends
  pub cpu : edge.cpu ≡ c.cpu
  pub ticks : edge.tick - label.since ≡ c.ticks

-- the best is of so many ticks or more
abbrev pub HasTicks : Option Candidate → ℕ → Type 0
HasTicks (Some c) k = k ≤ c.ticks
HasTicks None k = ⊥

-- one of the two, and not less than either
pub record IsBest (old : Option Candidate) (new : Candidate) (best : Option Candidate) : Type 0 where
  pub one : (best ≡ old) ⊎ (best ≡ Some new)
  pub kept : (k : ℕ) → HasTicks old k → HasTicks best k
  pub ticks : HasTicks best new.ticks

abbrev pub candidate_of : ℕ → Label → Edge → Candidate
candidate_of i l e = record { ticks = e.tick - l.since; state = i; cpu = e.cpu }

-- the best with the edge from state number i, by its effect
abbrev pub IsBestWith : Option Candidate → ℕ → Label → Edge → Effect → Option Candidate → Type 0
IsBestWith old i l e Ends best = IsBest old (candidate_of i l e) best
IsBestWith old i l e _ best = best ≡ old

abbrev pub IsCandidateIf : List (List Edge) → List (Option Label) → Option Candidate → Type 0
IsCandidateIf rows labels None = ⊤
IsCandidateIf rows labels (Some c) = IsCandidate rows labels c

-- the best is one, and not less than any from the first n states
pub record IsBestBelow (rows : List (List Edge)) (labels : List (Option Label)) (n : ℕ) (best : Option Candidate) : Type 0 where
  pub is : IsCandidateIf rows labels best
  pub each : (i : ℕ) (l : Label) (e : Edge) → i < n → IsLabelled labels i l → IsEdge rows i e → e.effect ≡ Ends → HasTicks best (e.tick - l.since)

-- or from any
pub record IsBestOf (rows : List (List Edge)) (labels : List (Option Label)) (best : Option Candidate) : Type 0 where
  pub is : IsCandidateIf rows labels best
  pub each : (i : ℕ) (l : Label) (e : Edge) → IsLabelled labels i l → IsEdge rows i e → e.effect ≡ Ends → HasTicks best (e.tick - l.since)
