-- A bitmap, as its words.
use Rattle.std.specs.Prelude.{◌≡◌, ◌≢◌, ℕ, ◌*◌, ◌/◌, ◌%◌, ◌<◌, ◌≤◌, List, length, get_or}
use Rattle.std.specs.Int.{bit_at}

-- bit i of the words, 64 to a word, and 0 past the last
abbrev pub bit_of : List ℕ → ℕ → ℕ
bit_of words i = bit_at (get_or words (i / 64) 0) (i % 64)

-- the words w are the words v with b for bit i
abbrev pub HasBit : List ℕ → ℕ → ℕ → List ℕ → Type 0
HasBit v i b w = (bit_of w i ≡ b) × ((j : ℕ) → j ≢ i → bit_of w j ≡ bit_of v j)

-- i is the index of the first bit that is set, of those from m on
abbrev pub IsNextSet : List ℕ → ℕ → ℕ → Type 0
IsNextSet words m i = (m ≤ i) × (i < 64 * length words) × (bit_of words i ≡ 1) × ((j : ℕ) → m ≤ j → j < i → bit_of words j ≡ 0)
