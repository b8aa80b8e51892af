-- Numbers as bytes. Each byte has five bits of a number, from the lowest to the highest. The three bits above them say that the
-- number ends there, with how many zeros stand behind it, from none to 6; or they are 7, and the number goes on in the next byte.
-- This project's own: LEB128 with a length for the runs of zeros.
use Rattle.std.specs.Prelude.{ℕ, zero, suc, ◌+◌, ◌-◌, ◌*◌, ◌/◌, ◌%◌, ◌^◌, ◌&&◌, ◌==◌, List, [], ◌∷◌, ◌++◌, Option, Some, None, nat_lt, if◌then◌else◌}
use Rattle.sd_encoding.specs.Reading.{◌>>=◌}

-- a number and so many zeros behind it, in at most one byte more than the first number says
unfoldable pub number_within : ℕ → ℕ → ℕ → List ℕ
number_within zero n zeros = (n + 32 * zeros) ∷ []
number_within (suc more) n zeros = if nat_lt n 32 then (n + 32 * zeros) ∷ [] else (n % 32 + 224) ∷ number_within more (n / 32) zeros

-- a number has fewer groups of five bits than it has units
unfoldable pub number_bytes : ℕ → ℕ → List ℕ
number_bytes n zeros = number_within n n zeros

-- a number, so many zeros behind it, and the numbers behind these
unfoldable pub bytes_from : ℕ → ℕ → List ℕ → List ℕ
bytes_from n zeros [] = number_bytes n zeros
bytes_from n zeros (m ∷ ns) = if m == 0 && nat_lt zeros 6 then bytes_from n (suc zeros) ns else number_bytes n zeros ++ bytes_from m 0 ns

-- numbers: the zeros behind each stand in its last byte, as many as it has room for
unfoldable pub bytes_of : List ℕ → List ℕ
bytes_of [] = []
bytes_of (n ∷ ns) = bytes_from n 0 ns

-- so many zeros before these numbers
unfoldable pub with_zeros : ℕ → List ℕ → List ℕ
with_zeros zero ns = ns
with_zeros (suc zeros) ns = 0 ∷ with_zeros zeros ns

-- the low bits of a number whose other bits stand first, as long as it is below 2^64
unfoldable pub continued : ℕ → List ℕ → Option (List ℕ)
continued low [] = None
continued low (n ∷ ns) = if nat_lt (low + 32 * n) (2 ^ 64) then Some ((low + 32 * n) ∷ ns) else None

-- a byte before the bytes of these numbers
unfoldable pub joined : ℕ → List ℕ → Option (List ℕ)
joined byte ns = if nat_lt byte 224 then Some ((byte % 32) ∷ with_zeros (byte / 32) ns) else continued (byte - 224) ns

-- the numbers that the bytes spell, each below 2^64
unfoldable pub numbers_in : List ℕ → Option (List ℕ)
numbers_in [] = Some []
numbers_in (byte ∷ bytes) = do
  ns ← numbers_in bytes
  joined byte ns
