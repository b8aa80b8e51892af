-- The mean of responses, as a fraction in lowest terms.
-- Source: arithmetic (the greatest common divisor).
use Rattle.std.specs.Prelude.{ℕ, ◌+◌, ◌/◌, ◌%◌, Bool, ◌&&◌, ◌==◌, fold, Option, Some, None, if◌then◌else◌}
use Rattle.std.specs.List.{range_with_len}
use Rattle.sd_statistics.specs.declared.spans.Summary.{Summary}
use Rattle.sd_deadlines.specs.declared.means.Mean.{Mean}

abbrev pub divides_both : ℕ → ℕ → ℕ → Bool
divides_both a b d = (a % d == 0) && (b % d == 0)

-- the number behind i, where it divides both; else the one before
abbrev pub divisor_after : ℕ → ℕ → ℕ → ℕ → ℕ
divisor_after a b before i = if divides_both a b (i + 1) then i + 1 else before

-- the greatest of the numbers from 1 to n that divides both
unfoldable pub divisor_up_to : ℕ → ℕ → ℕ → ℕ
divisor_up_to a b n = fold (divisor_after a b) 1 (range_with_len 0 n)

-- of two numbers of which the second is not 0, the greatest that divides both
abbrev pub common_divisor : ℕ → ℕ → ℕ
common_divisor a b = divisor_up_to a b b

abbrev pub fraction : ℕ → ℕ → ℕ → Mean
fraction a b d = record { ticks = a / d; jobs = b / d }

-- none of no responses
abbrev pub mean_of : Summary → Option Mean
mean_of x = if x.number == 0 then None else Some (fraction x.ticks x.number (common_divisor x.ticks x.number))
