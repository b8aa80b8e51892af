-- Spans of a run and their summary.
-- Source: this project's own.
use Rattle.std.specs.Prelude.{ℕ, ◌+◌, ◌-◌, nat_lt, min, List, [], ◌∷◌, length, sum_by, Option, Some, None, if◌then◌else◌}
use Rattle.sd_statistics.specs.declared.spans.Span.{Span}
use Rattle.sd_statistics.specs.declared.spans.Summary.{Summary}

abbrev pub ticks_of : Span → ℕ
ticks_of x = x.to - x.from

-- the number of the state that an entry made
abbrev pub state_after : ℕ → ℕ
state_after entry = min (entry + 1) 18446744073709551615

-- the first, unless the second is longer
abbrev pub longer : Option Span → Option Span → Option Span
longer None y = y
longer (Some x) None = Some x
longer (Some x) (Some y) = if nat_lt (ticks_of x) (ticks_of y) then Some y else Some x

-- the first of the longest
unfoldable pub longest : List Span → Option Span
longest [] = None
longest (x ∷ xs) = longer (Some x) (longest xs)

-- a sum is shown as far as 64 bits go
abbrev pub at_most_u64 : ℕ → ℕ
at_most_u64 n = min n 18446744073709551615

unfoldable pub summary_of : List Span → Summary
summary_of xs = record { number = length xs; ticks = at_most_u64 (sum_by ticks_of xs); longest = longest xs }
