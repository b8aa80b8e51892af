-- A run as a story: of each entry that is told its tick, the line of the journal, and a sentence on it.
-- Source: this project's own.
use Rattle.std.specs.Prelude.{◌≡◌, ℕ, ◌-◌, min, List, [], ◌∷◌, ◌++◌, length, drop, codes, decimal, if◌then◌else◌}
use Rattle.sd_types.specs.declared.events.Entry.{Entry}
use Rattle.sd_types.specs.declared.works.Work.{Work}
use Rattle.sd_state.specs.declared.states.State.{State}
use Rattle.sd_state.specs.Opening.{opening}
use Rattle.sd_machine.specs.Events.{after}
use Rattle.sd_machine.specs.Runs.{final, IsComplete}
use Rattle.sd_audit.specs.Audits.{entry_line, IsJournalOf}
use Rattle.sd_story.specs.Sentences.{sentence}
use Rattle.sd_story.specs.declared.selections.Selection.{Selection}
use Rattle.sd_story.specs.Selections.{is_told, tick_of}

-- a text with blanks behind it, as many as are given where it is empty, and two at least
abbrev pub cell : List ℕ → List ℕ → List ℕ
cell blanks text = text ++ drop (min (length text) (length blanks - 2)) blanks

abbrev pub tick_blanks : List ℕ
tick_blanks = codes "        "

abbrev pub line_blanks : List ℕ
line_blanks = codes "                              "

-- in the same columns
abbrev pub heading : List ℕ
heading = codes "tick    entry                         what happens\n"

-- the row of an entry, over the state before it
unfoldable pub row : Work → State → Entry → List ℕ
row w s e = cell tick_blanks (decimal (tick_of s e)) ++ cell line_blanks (entry_line w e) ++ sentence w s e.cpu e.event ++ codes "\n"

unfoldable pub row_if : Work → Selection → State → Entry → List ℕ
row_if w sel s e = if is_told w sel s e then row w s e else []

-- the rows of entries that follow a state
unfoldable pub rows_from : Work → Selection → State → List Entry → List ℕ
rows_from w sel s [] = []
rows_from w sel s (e ∷ es) = row_if w sel s e ++ rows_from w sel (after w s e.number e.cpu e.event) es

-- the story of a run
unfoldable pub story : Work → Selection → List Entry → List ℕ
story w sel es = heading ++ rows_from w sel (opening w) es

-- the text is the story of the complete legal run whose journal was read
pub record IsTold (w : Work) (journal : List ℕ) (sel : Selection) (told : List ℕ) : Type 0 where
  pub entries : List Entry
  pub journal_of : IsJournalOf w journal entries
  pub complete : IsComplete w (final w (opening w) entries)
  pub story : told ≡ story w sel entries
