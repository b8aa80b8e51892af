-- The lines of a text (this project's own): each ends with a newline,
-- which the last may lack. A newline at the end makes no further line.
use Rattle.std.specs.Prelude.{◌≡◌, ℕ, ◌+◌, Bool, not, List, [], ◌∷◌, ◌++◌, ◌==◌, if◌then◌else◌, length, map, Some}
use Rattle.std.specs.List.{onto_first, list_all, flat_map, position_or_len, last_or}

-- the byte that ends a line
abbrev pub is_newline : ℕ → Bool
is_newline byte = byte == 10

-- the lines, without their newlines
unfoldable pub lines_of : List ℕ → List (List ℕ)
lines_of [] = []
lines_of (byte ∷ bytes) = if is_newline byte then [] ∷ lines_of bytes else onto_first byte (lines_of bytes)

-- what stands in one line: no newline
abbrev pub is_line : List ℕ → Bool
is_line bytes = list_all (λ byte. not (is_newline byte)) bytes

-- the text of these lines, each with its newline
abbrev pub text_of_lines : List (List ℕ) → List ℕ
text_of_lines lines = flat_map (λ line. line ++ 10 ∷ []) lines

-- ---- texts of whole lines, and the pieces in which they are written

-- one line with its newline: the first newline is the last byte
abbrev pub IsOneLine : List ℕ → Type 0
IsOneLine piece = position_or_len is_newline piece + 1 ≡ length piece

-- whole lines: there is no byte, or the last one is a newline
abbrev pub EndsLine : List ℕ → Type 0
EndsLine text = last_or (Some 10) text ≡ Some 10

-- the lines of a text, each with its newline
abbrev pub pieces_of : List ℕ → List (List ℕ)
pieces_of text = map (λ line. line ++ 10 ∷ []) (lines_of text)

-- pieces one after another
abbrev pub text_of_pieces : List (List ℕ) → List ℕ
text_of_pieces pieces = flat_map (λ piece. piece) pieces
