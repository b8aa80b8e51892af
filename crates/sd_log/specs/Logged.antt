-- What contracts see of the entries of a run.
-- Source: this project's own.
use Rattle.std.specs.Prelude.{ℕ, ◌+◌, ◌*◌, ◌≤◌, ◌^◌, List, [], ◌∷◌}
use Rattle.std.specs.List.{All}
use Rattle.sd_types.specs.declared.events.Entry.{Entry}
use Rattle.sd_types.specs.Limits.{most_processors}
use Rattle.sd_log.specs.declared.short.ShortEntry.{ShortEntry}
use Rattle.sd_log.specs.Short.{IsWithin, entry_at}

-- the entries in the order of their numbers, and for how many more there is room
pub record Logged : Type 0 where
  pub items : List Entry
  pub room : ℕ

-- the entries from this number on
unfoldable pub entries_from : List ℕ → ℕ → List ShortEntry → List Entry
entries_from bytes n [] = []
entries_from bytes n (x ∷ xs) = entry_at bytes n x ∷ entries_from bytes (n + 1) xs

-- the numbers that each read lie among so many bytes
abbrev pub AreWithin : ℕ → List ShortEntry → Type 0
AreWithin many xs = All (IsWithin many) xs

-- there is room for so many entries, each of which takes a place and reads a number of each processor at most, of which there are 2^32 at most in all
pub record HasRoom (room places of_places bytes of_bytes : ℕ) : Type 0 where
  pub placed : places + room ≤ of_places
  pub listed : bytes + room * most_processors ≤ of_bytes
  pub few : bytes + room * most_processors ≤ 2 ^ 32
