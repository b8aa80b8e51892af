-- Which bytes may stand outside comments: blanks and printable ASCII. Source: this project's own.
use Rattle.std.specs.Prelude.{ℕ, Bool, ◌&&◌, ◌||◌, List}
use Rattle.std.specs.List.{list_all}
use Rattle.sd_text.specs.Words.{is_blank, before_comment, is_printable}

abbrev pub may_stand : ℕ → Bool
may_stand b = is_blank b || is_printable b

-- a line has no other bytes before its comment
abbrev pub is_plain_line : List ℕ → Bool
is_plain_line line = list_all may_stand (before_comment line)
