-- A task set as it is read, line by line, to the first line at fault by its own rules or to its end.
-- Source: this project's own.
use Rattle.std.specs.Prelude.{ℕ, ◌+◌, List, [], ◌∷◌, Option, Some, None}
use Rattle.sd_dispadmin.specs.TableText.{word_lines}
use Rattle.sd_lines.specs.Words.{Line}
use Rattle.sd_declare.specs.declared.causes.WorkCause.{WorkCause}
use Rattle.sd_tasks.specs.Blocks.{Seen, start}
use Rattle.sd_tasks.specs.Steps.{cause_of, seen_after, cause_at_end}

-- what was seen, with the line at fault; the line on which the reading ended, and why that line is at fault
pub record Reading : Type 0 where
  pub seen : Seen
  pub number : ℕ
  pub cause : Option WorkCause

abbrev pub unless_refused : Seen → ℕ → Option WorkCause → Reading → Reading
unless_refused s number None below = below
unless_refused s number (Some cause) below = record { seen = s; number = number; cause = Some cause }

-- lines, of which the first has this number, below lines of which this was seen; the end is on the line after the last
unfoldable pub read : ℕ → Seen → List Line → Reading
read number s [] = record { seen = s; number = number; cause = cause_at_end s }
read number s (line ∷ lines) =
    unless_refused (seen_after s number line) number (cause_of s number line) (read (number + 1) (seen_after s number line) lines)

abbrev pub reading_of : List ℕ → Reading
reading_of text = read 1 start (word_lines text)
