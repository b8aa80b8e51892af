-- Where a text that holds a workload and the journal of a run is cut in two.
-- Source: this project's own.
use Rattle.std.specs.Prelude.{◌≡◌, ◌≢◌, ℕ, List, [], ◌++◌, codes, ◌⊎◌}
use Rattle.std.specs.List.{All}
use Rattle.sd_text.specs.Lines.{lines_of, text_of_lines}

-- no line is the word `journal`
abbrev pub HasNoJournal : List ℕ → Type 0
HasNoJournal text = All (λ line. line ≢ codes "journal") (lines_of text)

-- Between these two parts of the text stands its first line that is the word `journal`. It lacks its newline only at the
-- end of the text.
pub record IsCut (text before after : List ℕ) : Type 0 where
  pub first : HasNoJournal before
  -- each line before it has its newline
  pub whole : text_of_lines (lines_of before) ≡ before
  pub parts : (text ≡ before ++ (codes "journal\n" ++ after)) ⊎ ((text ≡ before ++ codes "journal") × (after ≡ []))
