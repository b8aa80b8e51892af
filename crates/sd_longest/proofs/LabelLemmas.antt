-- What labels say of the waits of a graph.
use Rattle.std.proofs.Common.{ℕ, ◌<◌, ◌≤◌, List, [], ◌∷◌, Option, subst, arith, inl, inr}
use Rattle.sd_longest.specs.declared.edges.Edge.{Edge}
use Rattle.sd_longest.specs.declared.labels.Label.{Label}
use Rattle.sd_longest.specs.Edges.{IsWait, Lead}
use Rattle.sd_longest.specs.Labels.{HasLabel, IsLabelling, IsOpened, IsPassed, IsSourced}

module _ (rows : List (List Edge)) (labels : List (Option Label)) where
  -- how a label came, by its steps
  pub opened_there : (i : ℕ) (l : Label) → l.steps ≤ 0 → IsSourced rows labels i l → IsOpened rows i l
  opened_there i l none (inl (zero_steps, opened)) = opened
  opened_there i l none (inr passed) = absurd (let steps = passed.steps in omega (arith, steps, none))

  pub passed_there : (i : ℕ) (l : Label) → 0 < l.steps → IsSourced rows labels i l → IsPassed rows labels i l
  passed_there i l some (inl (zero_steps, opened)) = absurd (omega (arith, zero_steps, some))
  passed_there i l some (inr passed) = passed

  module _ (is : IsLabelling rows labels) where
    -- along edges that do not end it a wait since this tick stays open
    along : (i : ℕ) (es : List Edge) (j k : ℕ) → Lead rows i es j → HasLabel labels i k → HasLabel labels j k
    unfolding Lead
    along i [] j k same has = subst (λ n. HasLabel labels n k) same has
    along i (e ∷ es) j k (edge, passes, rest) has =
        let next = is.passed i has.label e has.at edge passes in
        along e.to es j k rest (record { label = next.label; at = next.at; early = let a = next.early in let b = has.early in omega (arith, a, b) })

    -- where an edge ends a wait, one since the same tick or an earlier one may be open
    pub open_there : (i : ℕ) (a : Edge) (bs : List Edge) (c : Edge) (w : IsWait rows i a bs c) → HasLabel labels w.state a.tick
    open_there i a bs c w = along a.to bs w.state a.tick w.lead (is.opened i a w.opening_at w.opens)
