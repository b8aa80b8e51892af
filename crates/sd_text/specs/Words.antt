-- The words of a line (this project's own): the runs of other bytes between blanks, before a comment.
use Rattle.std.specs.Prelude.{ℕ, Bool, not, List, [], ◌∷◌, ◌==◌, ◌||◌, ◌&&◌, IsTrue, if◌then◌else◌, filter, length, nat_le, nat_lt, slice_index_or}
use Rattle.std.specs.List.{slice_split, list_all}

-- space, tab or carriage return
abbrev pub is_blank : ℕ → Bool
is_blank byte = byte == 32 || byte == 9 || byte == 13

-- printable ASCII
abbrev pub is_printable : ℕ → Bool
is_printable byte = nat_le 32 byte && nat_le byte 126

-- `#`, which begins a comment wherever it stands, also inside a word; the comment runs to the end of the line
abbrev pub is_comment : ℕ → Bool
is_comment byte = byte == 35

-- what stands before the comment
abbrev pub before_comment : List ℕ → List ℕ
before_comment [] = []
before_comment (byte ∷ bytes) = if is_comment byte then [] else byte ∷ before_comment bytes

-- the runs of bytes between blanks; those at and between neighbouring blanks are empty
abbrev pub runs_of : List ℕ → List (List ℕ)
runs_of line = slice_split is_blank (before_comment line)

-- the words, in order: the runs that are not empty
unfoldable pub words_of : List ℕ → List (List ℕ)
words_of line = filter (λ run. nat_lt 0 (length run)) (runs_of line)

-- a byte that is no blank
abbrev pub is_other : ℕ → Bool
is_other byte = not (is_blank byte)

-- a byte that stands behind the end of a word
abbrev pub ends_word : ℕ → Bool
ends_word byte = is_blank byte || is_comment byte

-- what can be a word: not empty, and no byte ends it
abbrev pub is_word : List ℕ → Bool
is_word bytes = nat_lt 0 (length bytes) && list_all (λ byte. not (ends_word byte)) bytes

-- a word that stands before these bytes ends there: they are none, or the first ends it
abbrev pub EndsWord : List ℕ → Type 0
EndsWord rest = IsTrue (ends_word (slice_index_or rest 0 32))
