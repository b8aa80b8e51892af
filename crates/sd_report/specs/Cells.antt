-- The cells of a table: texts with blanks to a width, and numbers that may be none.
-- Source: this project's own.
use Rattle.std.specs.Prelude.{ℕ, ◌-◌, List, ◌++◌, length, replicate, codes, decimal, Option, Some, None}

abbrev pub blanks : ℕ → List ℕ
blanks n = replicate n 32

-- a text and blanks, where it is not as wide
unfoldable pub left : ℕ → List ℕ → List ℕ
left width text = text ++ blanks (width - length text)

-- blanks and a text
unfoldable pub right : ℕ → List ℕ → List ℕ
right width text = blanks (width - length text) ++ text

-- a number in a table, and a dash for none
abbrev pub cell : Option ℕ → List ℕ
cell None = codes "-"
cell (Some n) = decimal n
