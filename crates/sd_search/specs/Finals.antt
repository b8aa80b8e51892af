-- The states in which runs end, and the answer to a question.
-- Source: this project's own.
use Rattle.std.specs.Prelude.{◌≡◌, ◌⊎◌, ℕ, ◌<◌, zero, suc, List, [], ◌∷◌, ◌++◌, length, ⊤}
use Rattle.sd_types.specs.declared.works.Work.{Work}
use Rattle.sd_state.specs.declared.states.State.{State}
use Rattle.sd_machine.specs.Runs.{IsComplete}
use Rattle.sd_search.specs.declared.graph.Graph.{Graph}
use Rattle.sd_search.specs.declared.questions.Answer.{Answer}
use Rattle.sd_search.specs.declared.questions.Answer.TheVariants.{Found, Never, More}
use Rattle.sd_search.specs.declared.questions.Question.{Question}
use Rattle.sd_search.specs.Graphs.{IsAt, packed}
use Rattle.sd_search.specs.Questions.{HasNoWitness, Meets}

-- a run ends in state number i
pub record Ends (w : Work) (bs : List (List ℕ)) (i : ℕ) : Type 0 where
  pub state : State
  pub at : IsAt bs i state
  pub complete : IsComplete w state

-- the numbers below k of the states in which runs end, in rising order
abbrev pub AreFinals : Work → List (List ℕ) → ℕ → List ℕ → Type 0
AreFinals w bs zero finals = finals ≡ []
AreFinals w bs (suc k) finals =
    (Ends w bs k × ((before : List ℕ) × (finals ≡ before ++ k ∷ []) × AreFinals w bs k before))
    ⊎ ((Ends w bs k → ⊥) × AreFinals w bs k finals)

-- a state was found that meets the question; or no run that can be searched ends so; or not all were searched, and no state
-- that was found meets it
abbrev pub IsAnswer : Work → Question → List (List ℕ) → Answer → Type 0
IsAnswer w q bs (Found i) = (x : State) × IsAt bs i x × Meets w q x
IsAnswer w q bs Never = HasNoWitness w q
IsAnswer w q bs More = (i : ℕ) (x : State) → IsAt bs i x → Meets w q x → ⊥

-- `More` is the answer only where not all was searched
abbrev pub IsOpenAnswer : Graph → Answer → Type 0
IsOpenAnswer g More = g.done < length (packed g)
IsOpenAnswer g _ = ⊤

-- no state with a smaller number than the one that was found meets the question
abbrev pub IsFirst : Work → Question → List (List ℕ) → Answer → Type 0
IsFirst w q bs (Found i) = (j : ℕ) (y : State) → j < i → IsAt bs j y → Meets w q y → ⊥
IsFirst w q bs _ = ⊤
