-- What is kept of the entries of a journal while it is judged.
-- Source: this project's own.
use Rattle.std.specs.Prelude.{◌≡◌, ℕ, List, [], ◌∷◌, ◌++◌, length}
use Rattle.sd_types.specs.declared.events.Entry.{Entry}
use Rattle.sd_types.specs.declared.works.Work.{Work}
use Rattle.sd_state.specs.declared.states.State.{State}
use Rattle.sd_state.specs.Opening.{opening}
use Rattle.sd_machine.specs.Runs.{final, IsRun}
use Rattle.sd_audit.specs.Audits.{IsJournal}

-- the state is that of a run of so many entries, of which this holds
pub record IsAfter (w : Work) (number : ℕ) (s : State) (Has : List Entry → Type 0) : Type 0 where
  pub entries : List Entry
  pub run : IsRun w entries
  pub many : length entries ≡ number
  pub ends : s ≡ final w (opening w) entries
  pub has : Has entries

-- where the one held of the entries that lead to the state, the other holds of these and one more
abbrev pub Takes : Work → State → Entry → (List Entry → Type 0) → (List Entry → Type 0) → Type 0
Takes w s e Had Has = (es : List Entry) → s ≡ final w (opening w) es → Had es → Has (es ++ e ∷ [])

-- the text is the journal of a complete run, and this holds of its entries
abbrev pub IsJournalWith : Work → List ℕ → State → ℕ → (List Entry → Type 0) → Type 0
IsJournalWith w text s n Has = (j : IsJournal w text s n) × Has j.entries
