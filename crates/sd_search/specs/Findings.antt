-- The answer to a question in terms of runs alone.
-- Source: this project's own.
use Rattle.std.specs.Prelude.{ℕ, ◌<◌, ◌≤◌, List, length, ⊤}
use Rattle.sd_types.specs.declared.events.Entry.{Entry}
use Rattle.sd_types.specs.declared.works.Work.{Work}
use Rattle.sd_state.specs.declared.states.State.{State}
use Rattle.sd_search.specs.declared.findings.Finding.{Finding}
use Rattle.sd_search.specs.declared.findings.Finding.TheVariants.{Found, Never, More}
use Rattle.sd_search.specs.declared.graph.Graph.{Graph}
use Rattle.sd_search.specs.declared.questions.Question.{Question}
use Rattle.sd_search.specs.Graphs.{IsAt, packed}
use Rattle.sd_search.specs.Questions.{HasNoWitness, IsWitness, Meets}

-- a run that ends so; or none does; where not all was searched nothing is said
abbrev pub IsFinding : Work → Question → Finding → Type 0
IsFinding w q (Found es) = IsWitness w q es.items
IsFinding w q Never = HasNoWitness w q
IsFinding w q More = ⊤

-- nothing is said only where not all was searched, and no state that was found meets the question
abbrev pub IsFair : Work → Question → Graph → Finding → Type 0
IsFair w q g More = (g.done < length (packed g)) × ((i : ℕ) (x : State) → IsAt (packed g) i x → Meets w q x → ⊥)
IsFair w q g _ = ⊤

-- no run that ends so has fewer entries than the one that was found
abbrev pub IsShortest : Work → Question → Finding → Type 0
IsShortest w q (Found es) = (fs : List Entry) → IsWitness w q fs → length es.items ≤ length fs
IsShortest w q _ = ⊤
