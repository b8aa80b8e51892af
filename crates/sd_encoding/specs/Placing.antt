-- Numbers that are put at the end of a list of zeros, from the last one to the first.
-- Source: this project's own.
use Rattle.std.specs.Prelude.{◌≡◌, ℕ, ◌+◌, ◌/◌, ◌<◌, List, Option, drop, slice_index, nat_lt, if◌then◌else◌}
use Rattle.std.specs.Option.{option_map}

-- the list has only zeros before this place
abbrev pub AreZeros : ℕ → List ℕ → Type 0
AreZeros at ns = (k : ℕ) → k < at → slice_index ns k ≡ 0

-- the numbers from a place on, where there is one
abbrev pub placed : List ℕ → Option ℕ → Option (List ℕ)
placed ns at = option_map (λ from. drop from ns) at

-- how many numbers end with a byte: the one of which it is the last byte, and the zeros behind that one
abbrev pub room_of : ℕ → ℕ
room_of byte = if nat_lt byte 224 then byte / 32 + 1 else 0
