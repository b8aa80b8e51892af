-- Labels as they are made, in rising order of the ticks since which waits are open.
-- Source: this project's own.
use Rattle.std.specs.Prelude.{◌≡◌, ℕ, ◌+◌, ◌<◌, ◌≤◌, ◌⊎◌, List, [], ◌∷◌, ◌++◌, length, slice_get, slice_set, count_by, is_none, Option, Some, None}
use Rattle.sd_longest.specs.declared.edges.Edge.{Edge}
use Rattle.sd_longest.specs.declared.edges.Effect.{Effect}
use Rattle.sd_longest.specs.declared.edges.Effect.TheVariants.{Ends}
use Rattle.sd_longest.specs.declared.labels.Label.{Label}
use Rattle.sd_longest.specs.declared.marking.Marking.{Marking}
use Rattle.sd_longest.specs.Edges.{IsEdge}
use Rattle.sd_longest.specs.Labels.{HasLabel, IsLabelled, IsSourced}

-- the wait of state number i has passed along the edge, if the edge does not end it
abbrev pub HasPassed : List (Option Label) → Label → Edge → Type 0
HasPassed labels l e = (e.effect ≡ Ends → ⊥) → HasLabel labels e.to l.since

-- labels with ticks of at most k, in the order in which states came to them; the first `done` have passed their waits on, and the
-- others have labels with tick k
pub record AreMarked (rows : List (List Edge)) (k : ℕ) (labels : List (Option Label)) (order : List ℕ) (done : ℕ) : Type 0 where
  pub many : length labels ≡ length rows
  pub left : count_by is_none labels + length order ≡ length rows
  pub within : done ≤ length order
  pub sourced : (i : ℕ) (l : Label) → IsLabelled labels i l → IsSourced rows labels i l
  pub few : (i : ℕ) (l : Label) → IsLabelled labels i l → l.steps < length order
  pub early : (i : ℕ) (l : Label) → IsLabelled labels i l → l.since ≤ k
  pub listed : (i : ℕ) (l : Label) → IsLabelled labels i l → (p : ℕ) × (slice_get order p ≡ Some i)
  pub labelled : (p i : ℕ) → slice_get order p ≡ Some i → (l : Label) × IsLabelled labels i l
  pub late : (p i : ℕ) (l : Label) → done ≤ p → slice_get order p ≡ Some i → IsLabelled labels i l → k ≤ l.since
  pub passed : (p i : ℕ) (l : Label) → p < done → slice_get order p ≡ Some i → IsLabelled labels i l → (e : Edge) → IsEdge rows i e → HasPassed labels l e

abbrev pub IsMarking : List (List Edge) → ℕ → Marking → Type 0
IsMarking rows k m = AreMarked rows k m.labels.items m.order.items m.done

-- labels stay, and so does the order
pub record Keeps (old new : Marking) : Type 0 where
  pub labels : (i : ℕ) (l : Label) → IsLabelled old.labels.items i l → IsLabelled new.labels.items i l
  pub order : (p i : ℕ) → slice_get old.order.items p ≡ Some i → slice_get new.order.items p ≡ Some i

pub record IsSame (old new : Marking) : Type 0 where
  pub labels : new.labels.items ≡ old.labels.items
  pub order : new.order.items ≡ old.order.items
  pub done : new.done ≡ old.done

-- state number i had no label and has this one
pub record IsSet (old new : Marking) (i : ℕ) (l : Label) : Type 0 where
  pub free : slice_get old.labels.items i ≡ Some None
  pub labels : new.labels.items ≡ slice_set old.labels.items i (Some l)
  pub order : new.order.items ≡ old.order.items ++ i ∷ []
  pub done : new.done ≡ old.done

-- or it had one, and nothing changes
abbrev pub Sets : Marking → Marking → ℕ → Label → Type 0
Sets old new i l = IsSet old new i l ⊎ (IsSame old new × ((had : Label) × IsLabelled old.labels.items i had))

-- the label that the wait of state number i gives along the edge
abbrev pub passed_on : ℕ → Label → Edge → Label
passed_on i l e = record { since = l.since; before = i; cpu = e.cpu; steps = l.steps + 1 }

-- what the edge does, by its effect
abbrev pub PassesOn : Marking → Marking → ℕ → Label → Edge → Effect → Type 0
PassesOn old new i l e Ends = IsSame old new
PassesOn old new i l e _ = Sets old new e.to (passed_on i l e)
