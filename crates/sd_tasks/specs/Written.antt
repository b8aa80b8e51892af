-- Lines as they are written, each with the line of the set from which it comes. Source: this project's own.
use Rattle.std.specs.Prelude.{ℕ, List, [], ◌∷◌, ◌++◌, map, flat_map}
use Rattle.std.specs.List.{range_with_len}
use Rattle.sd_lines.specs.Words.{Line}

pub record Written : Type 0 where
  -- its bytes, without a newline
  pub text : List ℕ
  -- from 1
  pub line : ℕ

abbrev pub written : List ℕ → ℕ → Written
written text line = record { text = text; line = line }

-- words with a blank before each
abbrev pub spaced : Line → List ℕ
spaced words = flat_map (λ word. 32 ∷ word) words

-- words with a blank between each two
abbrev pub joined : Line → List ℕ
joined [] = []
joined (word ∷ words) = word ++ spaced words

-- these lines so many times
abbrev pub again : ℕ → List Written → List Written
again n lines = flat_map (λ k. lines) (range_with_len 0 n)

-- the text of lines, each with its newline
abbrev pub text_of : List Written → List ℕ
text_of lines = flat_map (λ w. w.text ++ 10 ∷ []) lines

-- the lines from which they come: the map
abbrev pub origins : List Written → List ℕ
origins lines = map (λ w. w.line) lines
