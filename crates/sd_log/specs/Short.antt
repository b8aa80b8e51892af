-- An entry without its number and without the numbers that it read, which lie in a list of bytes where one is not 0.
-- Source: this project's own.
use Rattle.std.specs.Prelude.{ℕ, ◌+◌, ◌≤◌, List, replicate, take, drop, Option, None, Some}
use Rattle.sd_types.specs.declared.events.Entry.{Entry}
use Rattle.sd_types.specs.declared.events.Hints.{Hints}
use Rattle.sd_types.specs.declared.events.Which.{Which}
use Rattle.sd_types.specs.declared.events.Which.TheVariants.{Running as OfRunning, Queued as OfQueued}
use Rattle.sd_types.specs.Limits.{most_processors}
use Rattle.sd_log.specs.Parts.{hints_of}
use Rattle.sd_log.specs.declared.short.Reading.{Reading}
use Rattle.sd_log.specs.declared.short.Reading.TheVariants.{Nothing, Running, Queued, Zeros}
use Rattle.sd_log.specs.declared.short.ShortEntry.{ShortEntry}

-- of which kind numbers are that were read
abbrev pub reading_by : Which → Reading
reading_by OfRunning = Running
reading_by OfQueued = Queued

abbrev pub reading_of : Option Hints → Reading
reading_of None = Nothing
reading_of (Some hints) = reading_by hints.which

abbrev pub kind_of : Reading → Option Which
kind_of Nothing = None
kind_of Running = Some OfRunning
kind_of Queued = Some OfQueued
kind_of Zeros = Some OfQueued

-- so many numbers, and how many bytes they take: zeros take none
abbrev pub numbers_at : List ℕ → Reading → (from count : ℕ) → List ℕ
numbers_at bytes Nothing from count = take count (drop from bytes)
numbers_at bytes Running from count = take count (drop from bytes)
numbers_at bytes Queued from count = take count (drop from bytes)
numbers_at bytes Zeros from count = replicate count 0

abbrev pub bytes_of : Reading → ℕ → ℕ
bytes_of Nothing count = count
bytes_of Running count = count
bytes_of Queued count = count
bytes_of Zeros count = 0

-- its numbers lie among so many bytes, and are at most those of all processors
pub record IsWithin (many : ℕ) (x : ShortEntry) : Type 0 where
  pub inside : x.from + bytes_of x.reading x.count ≤ many
  pub fits : x.count ≤ most_processors

-- the entry, at this place
abbrev pub entry_at : List ℕ → ℕ → ShortEntry → Entry
entry_at bytes i x = record { number = i; cpu = x.cpu; event = x.event; hints = hints_of (kind_of x.reading) (numbers_at bytes x.reading x.from x.count) }
