-- Threads none of which has a greater key than a number.
-- Source: this project's own.
use Rattle.std.specs.Prelude.{ℤ, ◌≤ℤ◌, List, [], ◌∷◌}
use Rattle.sd_record.specs.Records.{ThreadRecord}

abbrev pub KeysAtMost : ℤ → List ThreadRecord → Type 0
KeysAtMost k [] = Unit {0}
KeysAtMost k (x ∷ xs) = (x.key ≤ℤ k) × KeysAtMost k xs
