-- Numbers as the texts spell them (this project's own): decimal, of at most ten digits.
use Rattle.std.specs.Prelude.{ℕ, ℤ, pos, neg_ℤ, Bool, List, [], decimal, ◌==◌, ◌&&◌, if◌then◌else◌, length, drop, nat_lt, nat_le, Option, None, Some, slice_index}
use Rattle.std.specs.Option.{option_map}
use Rattle.std.specs.Str.{all_ascii_digits}
use Rattle.std.specs.Str.Parse.{digits_value}

-- one to ten decimal digits, and nothing else; zeros may stand first
abbrev pub is_number : List ℕ → Bool
is_number word = nat_lt 0 (length word) && nat_le (length word) 10 && all_ascii_digits word

-- the number that a word spells
unfoldable pub number_of : List ℕ → Option ℕ
number_of word = if is_number word then Some (digits_value 10 word) else None

-- the same after an optional `-`, which is not counted among the ten
unfoldable pub signed_of : List ℕ → Option ℤ
signed_of word = if slice_index word 0 == 45 then option_map (λ n. neg_ℤ (pos n)) (number_of (drop 1 word)) else option_map pos (number_of word)

-- the digits of a number, and an empty text for none
abbrev pub digits_if : Option ℕ → List ℕ
digits_if None = []
digits_if (Some n) = decimal n
