-- The table as the world of one processor.
-- Source: this project's own.
use Rattle.std.specs.Prelude.{◌≡◌, ◌≢◌, ℕ, ◌≤◌, true, ◌∷◌, Option, Some, None}
use Rattle.sd_types.specs.declared.works.Work.{Work}
use Rattle.sd_world.specs.declared.world.Behind.{Behind}
use Rattle.sd_world.specs.Worlds.{IsBehind, Meaning, ReadsCounts, actor_of, note}
use Rattle.sd_shared_table.specs.Seats.{Fits, id_of, table_meaning, work_of}
use Rattle.sd_threads.specs.declared.world.TableWorld.{TableWorld}

abbrev pub the_work : TableWorld → Work
the_work x = work_of x.shared.now

-- others make entries too; its log is its seat's
abbrev pub world_meaning : TableWorld → Meaning
world_meaning x = table_meaning (work_of x.shared.now) x.seat x.stops

-- the seat is of this table, and fits it
abbrev pub IsTable : TableWorld → Type 0
IsTable x = Fits (id_of x.shared.now) (work_of x.shared.now) x.seat

-- the count of a processor was read, and nothing else
pub record ReadsCount (m m' : Meaning) (c n : ℕ) : Type 0 where
  pub reads : ReadsCounts m m'
  pub noted : m'.notes ≡ note c n ∷ m.notes
  pub counted : m'.counted c n ≡ true

-- a count of this processor was read that is not below the own count, unless it is the one that acts
abbrev pub IsLevel : Meaning → ℕ → Type 0
IsLevel m d = d ≢ (actor_of m).0 → (n : ℕ) × (m.acting.actor.count ≤ n) × (m.counted d n ≡ true)

abbrev pub Compares : Meaning → Meaning → ℕ → Option Behind → Type 0
Compares m m' d None = IsLevel m' d
Compares m m' d (Some b) = IsBehind m m' b.cpu.0 b.count
