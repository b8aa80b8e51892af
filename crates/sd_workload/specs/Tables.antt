-- A table's block as the reader takes it from a text.
use Rattle.std.specs.Prelude.{◌≡◌, ℕ, ◌+◌, ◌<◌, ◌≤◌, true, not, List, [], ◌∷◌, ◌++◌, length, Option, Some, None, IfSome}
use Rattle.std.specs.List.{list_all}
use Rattle.sd_dispadmin.specs.declared.fault.TableFault.{TableFault}
use Rattle.sd_dispadmin.specs.declared.fault.TableFault.TheVariants.{NotANumber, Range, Rows, Resolution}
use Rattle.sd_dispadmin.specs.TableText.{word_lines}
use Rattle.sd_lines.specs.Words.{Line, is_end}
use Rattle.sd_workload.specs.declared.line_starts.LineStart.{LineStart}
use Rattle.sd_workload.specs.declared.tables.TableBlock.{TableBlock}
use Rattle.sd_workload.specs.LineStarts.{lines_from}

-- what stands behind the lines of a block: the line that closes it and the lines below that, or nothing
abbrev pub Follows : List ℕ → Option LineStart → List Line → Type 0
Follows text None rest = rest ≡ []
Follows text (Some to) rest = (line : Line) × (rest ≡ line ∷ lines_from text to) × (is_end line ≡ true)

-- a place below another in a text, whose number fits
pub record IsBelow (text : List ℕ) (at to : LineStart) : Type 0 where
  pub below : at.from < to.from
  pub within : to.from ≤ length text + 1
  pub numbered : to.number ≤ to.from + 1

-- the block whose lines begin at a place
pub record IsBlock (text : List ℕ) (at : LineStart) (block : TableBlock) : Type 0 where
  pub rest : List Line
  pub lines : lines_from text at ≡ word_lines block.text.items ++ rest
  pub closes : list_all (λ line. not (is_end line)) (word_lines block.text.items) ≡ true
  pub end : block.end ≡ at.number + length (word_lines block.text.items)
  pub follows : Follows text block.below rest
  pub numbered : IfSome block.below (λ to. to.number ≡ block.end + 1)
  pub below : IfSome block.below (IsBelow text at)

-- the line of a table's fault, from 1, where it is that of a line
abbrev pub line_of : TableFault → Option ℕ
line_of (NotANumber line) = Some line
line_of (Range line column) = Some line
line_of (Rows found) = None
line_of (Resolution line) = Some line
