-- Counts of faults, of 64 bits, that never fall (this project's own).
use Rattle.std.specs.Prelude.{ℕ, ◌+◌, ◌-◌, ◌^◌, ◌≤◌, min}

-- the greatest count: a counter that has reached it stays there
abbrev pub greatest_count : ℕ
greatest_count = 2 ^ 64 - 1

-- the count after one more
abbrev pub next_count : ℕ → ℕ
next_count n = min (n + 1) greatest_count

-- The count rose from old to new. One that stands at the greatest can show no further fault, so it counts as risen.
-- Of counts that fit 64 bits this is `old < new` or `new ≡ greatest_count`.
abbrev pub HasRisen : ℕ → ℕ → Type 0
HasRisen old new = next_count old ≤ new
