-- Where two texts differ first, byte by byte.
-- Source: this project's own.
use Rattle.std.specs.Prelude.{ℕ, ◌+◌, ◌==◌, List, [], ◌∷◌, if◌then◌else◌}
use Rattle.sd_text.specs.Lines.{is_newline}

-- how many newlines stand before the first byte in which two texts differ, or before the end of the shorter
unfoldable pub newlines_before : List ℕ → List ℕ → ℕ
newlines_before [] ys = 0
newlines_before (x ∷ xs) [] = 0
newlines_before (x ∷ xs) (y ∷ ys) = if x == y then (if is_newline x then 1 + newlines_before xs ys else newlines_before xs ys) else 0
