-- Where the first words of a line stand (this project's own).
use Rattle.std.specs.Prelude.{◌≡◌, ℕ, ◌≤◌, List, length, map, take, slice_range}
use Rattle.std.specs.List.{All}
use Rattle.sd_text.specs.Words.{words_of}

-- what stands at the places
abbrev pub words_at : List ℕ → List (ℕ × ℕ) → List (List ℕ)
words_at line places = map (λ p. slice_range line p.0 p.1) places

-- each place begins before it ends, inside the line
abbrev pub AreWithin : List ℕ → List (ℕ × ℕ) → Type 0
AreWithin line places = All (λ p. (p.0 ≤ p.1) × (p.1 ≤ length line)) places

-- the places of the first eleven words, or of all where there are fewer
pub record ArePlaces (line : List ℕ) (places : List (ℕ × ℕ)) : Type 0 where
  pub within : AreWithin line places
  pub words : words_at line places ≡ take 11 (words_of line)
