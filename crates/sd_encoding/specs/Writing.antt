-- Numbers that are written one after another: the bytes so far but for the last one, which is held back for the zeros behind the
-- last number. It has the highest bits of that number, and how many zeros stand behind it.
-- Source: this project's own.
use Rattle.std.specs.Prelude.{◌≡◌, ℕ, ◌<◌, ◌≤◌, ◌^◌, ◌/◌, ◌%◌, Bool, true, false, List, [], ◌∷◌, ◌++◌, Option, Some, None}
use Rattle.std.specs.List.{AllByRecursion}
use Rattle.sd_encoding.specs.Bytes.{bytes_from, bytes_of, numbers_in}

-- the byte that is held back, if one is
unfoldable pub pending : Bool → ℕ → List ℕ
pending true last = last ∷ []
pending false last = []

-- the bytes of what is held back and of the numbers behind it
unfoldable pub pending_from : Bool → ℕ → List ℕ → List ℕ
pending_from true last ns = bytes_from (last % 32) (last / 32) ns
pending_from false last ns = bytes_of ns

unfoldable pub or_none : Option (List ℕ) → List ℕ
or_none (Some ns) = ns
or_none None = []

-- the numbers that were written
unfoldable pub written : Bool → List ℕ → ℕ → List ℕ
written begun bytes last = or_none (numbers_in (bytes ++ pending begun last))

-- these numbers were written: whatever follows, the bytes are those of all together; as long as there is none, no zero is counted
pub record IsWritten (begun : Bool) (bytes : List ℕ) (last : ℕ) (ns : List ℕ) : Type 0 where
  pub whole : (more : List ℕ) → bytes ++ pending_from begun last more ≡ bytes_of (ns ++ more)
  pub small : AllByRecursion (λ m. m < 2 ^ 64) ns
  pub room : last < 224
  pub first : begun ≡ false → 192 ≤ last
