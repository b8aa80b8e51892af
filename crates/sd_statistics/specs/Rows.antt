-- The numbers of a row.
-- Source: this project's own.
use Rattle.std.specs.Prelude.{ℕ, Bool, true, ◌&&◌, ◌==◌, List, [], ◌∷◌, Option, Some, None, if◌then◌else◌}
use Rattle.sd_statistics.specs.declared.rows.Figures.{Figures}
use Rattle.sd_statistics.specs.declared.rows.Row.{Row}
use Rattle.sd_statistics.specs.declared.spans.Summary.{Summary}

abbrev pub all_of : Summary → Figures
all_of x = record { number = Some x.number; ticks = Some x.ticks; longest = x.longest; priority = None }

abbrev pub count_figures : ℕ → Figures
count_figures n = record { number = Some n; ticks = None; longest = None; priority = None }

abbrev pub tick_figures : ℕ → Figures
tick_figures n = record { number = None; ticks = Some n; longest = None; priority = None }

abbrev pub is_zero : Option ℕ → Bool
is_zero None = true
is_zero (Some n) = n == 0

-- nothing is counted
abbrev pub is_nothing : Figures → Bool
is_nothing x = is_zero x.number && is_zero x.ticks && is_zero x.priority

-- a row that counts something
abbrev pub row_if : Row → List Row
row_if x = if is_nothing x.figures then [] else x ∷ []
