-- The search for the line at which a text is cut.
-- Source: this project's own.
use Rattle.std.specs.Prelude.{◌≡◌, ◌≢◌, ℕ, ◌≤◌, true, List, ◌++◌, length, drop, codes}
use Rattle.std.specs.List.{All, list_all}
use Rattle.sd_text.specs.Lines.{lines_of, is_line, text_of_lines}

-- the lines before this byte, none of which is the word `journal`
pub record HasPassed (text : List ℕ) (from : ℕ) : Type 0 where
  pub lines : List (List ℕ)
  pub are_lines : list_all is_line lines ≡ true
  pub none : All (λ line. line ≢ codes "journal") lines
  pub told : lines_of text ≡ lines ++ lines_of (drop from text)
  pub parts : from ≤ length text → text ≡ text_of_lines lines ++ drop from text
