-- Which words are names. Source: this project's own.
use Rattle.std.specs.Prelude.{ℕ, Bool, false, ◌&&◌, ◌||◌, List, [], ◌∷◌, length, nat_le, ◌==◌}
use Rattle.std.specs.List.{list_all}
use Rattle.sd_types.specs.Limits.{most_name_bytes}

-- a to z
abbrev pub is_letter : ℕ → Bool
is_letter b = nat_le 97 b && nat_le b 122

-- a letter, a digit, _ or -
abbrev pub is_name_byte : ℕ → Bool
is_name_byte b = is_letter b || (nat_le 48 b && nat_le b 57) || (b == 95) || (b == 45)

abbrev pub begins_with_letter : List ℕ → Bool
begins_with_letter [] = false
begins_with_letter (b ∷ bs) = is_letter b

abbrev pub is_name : List ℕ → Bool
is_name word = begins_with_letter word && nat_le (length word) most_name_bytes && list_all is_name_byte word
