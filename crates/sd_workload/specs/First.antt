-- The first line at fault, by its index: what stands above each line, its cause, and which line is the first.
-- Source: this project's own.
use Rattle.std.specs.Prelude.{◌≡◌, ℕ, ◌+◌, ◌<◌, ◌⊎◌, List, [], length, take, fold, slice_index_or, Option, Some, None}
use Rattle.sd_lines.specs.Words.{Line}
use Rattle.sd_declare.specs.declared.causes.WorkCause.{WorkCause}
use Rattle.sd_declare.specs.Declarations.{Declarations, nothing}
use Rattle.sd_workload.specs.Texts.{Block, Outside, cause_of, declared_after, block_after, end_cause}

-- what is declared above a line, and the block that is open there
pub record Above : Type 0 where
  pub declared : Declarations
  pub block : Block

abbrev pub start : Above
start = record { declared = nothing; block = Outside }

abbrev pub after : Above → Line → Above
after a line = record { declared = declared_after a.declared a.block line; block = block_after a.declared a.block line }

-- above the line at an index, counted from 0
abbrev pub above : List Line → ℕ → Above
above lines i = fold after start (take i lines)

-- why the line at an index is refused
abbrev pub cause_at : List Line → ℕ → Option WorkCause
cause_at lines i = cause_of (above lines i).declared (above lines i).block (slice_index_or lines i [])

-- why the end of the input is refused
abbrev pub cause_at_end : List Line → Option WorkCause
cause_at_end lines = end_cause (above lines (length lines)).declared (above lines (length lines)).block

-- none of the lines before an index is refused
abbrev pub AreTaken : List Line → ℕ → Type 0
AreTaken lines n = (i : ℕ) → i < n → cause_at lines i ≡ None

-- a line, counted from 1, is the first at fault; or no line is, and the end of the input is, on the line after the last
abbrev pub IsFirst : List Line → ℕ → WorkCause → Type 0
IsFirst lines line cause =
    ((i : ℕ) × (line ≡ i + 1) × (i < length lines) × AreTaken lines i × (cause_at lines i ≡ Some cause))
    ⊎ ((line ≡ length lines + 1) × AreTaken lines (length lines) × (cause_at_end lines ≡ Some cause))

-- nothing is at fault
pub record AllTaken (lines : List Line) (d : Declarations) : Type 0 where
  pub lines_taken : AreTaken lines (length lines)
  pub end_taken : cause_at_end lines ≡ None
  pub declares : d ≡ (above lines (length lines)).declared
