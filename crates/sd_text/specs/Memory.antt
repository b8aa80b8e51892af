-- Sources and sinks in memory (this project's own): what they hold, and what a call does to it.
use Rattle.std.specs.Prelude.{◌≡◌, ℕ, ◌-◌, ◌⊎◌, Bool, true, false, List, [], ◌++◌, length, take, drop, min, MatchResult, Result, Contains}
use Rattle.sd_text.specs.declared.streams.Failed.{Failed}
use Rattle.sd_text.specs.Faults.{next_count}

pub record SourceState : Type 0 where
  -- the bytes that are left
  pub left : List ℕ
  -- how many bytes a read gives at most
  pub chunk : ℕ
  -- the numbers, from 1, of the reads that fail
  pub failing : List ℕ
  -- how many reads there were, and how many failed
  pub reads : ℕ
  pub faults : ℕ

-- the source after one more read
abbrev pub after_read : SourceState → SourceState
after_read s = record s { reads = next_count s.reads }

-- how many bytes a read that doesn't fail gives, into a buffer of this length
abbrev pub chunk_len : SourceState → ℕ → ℕ
chunk_len s room = min (min s.chunk room) (length s.left)

-- The read, which is the one of the next number, fails where that number stands among the failing ones,
-- and gives nothing then. Else it puts the next bytes at the beginning of the buffer.
abbrev pub ReadsChunk : SourceState → SourceState → Result ℕ Failed → List ℕ → List ℕ → Type 0
ReadsChunk old new result before after = MatchResult result
    (λ n. (¬ Contains old.failing (next_count old.reads)) × (n ≡ chunk_len old (length before))
    × (new ≡ record (after_read old) { left = drop n old.left }) × (after ≡ take n old.left ++ drop n before))
    (λ _. Contains old.failing (next_count old.reads) × (new ≡ record (after_read old) { faults = next_count old.faults })
    × (after ≡ before))

pub record SinkState : Type 0 where
  -- the bytes that it holds
  pub held : List ℕ
  -- how many bytes it holds at most
  pub room : ℕ
  -- the numbers, from 1, of the writes that fail, and whether each flush fails
  pub failing : List ℕ
  pub fails_to_flush : Bool
  -- how many writes there were, and how many calls failed
  pub writes : ℕ
  pub faults : ℕ

-- it hands everything on at once
abbrev pub kept_back : SinkState → List ℕ
kept_back s = []

-- the sink after one more write
abbrev pub after_write : SinkState → SinkState
after_write s = record s { writes = next_count s.writes }

-- the next write fails: its number stands among the failing ones, or the sink is full
abbrev pub IsRefusing : SinkState → Type 0
IsRefusing s = Contains s.failing (next_count s.writes) ⊎ (length s.held ≡ s.room)

-- A write that fails changes nothing but the counts. Any other appends as much of the piece as there is room for.
abbrev pub TakesPiece : SinkState → SinkState → Result ℕ Failed → List ℕ → Type 0
TakesPiece old new result piece = MatchResult result
    (λ n. (¬ IsRefusing old) × (n ≡ min (old.room - length old.held) (length piece))
    × (new ≡ record (after_write old) { held = old.held ++ take n piece }))
    (λ _. IsRefusing old × (new ≡ record (after_write old) { faults = next_count old.faults }))

-- A flush fails where the sink is told so, and changes nothing but the count of faults.
abbrev pub Flushes : SinkState → SinkState → Result (Unit {0}) Failed → Type 0
Flushes old new result = MatchResult result (λ _. (old.fails_to_flush ≡ false) × (new ≡ old))
    (λ _. (old.fails_to_flush ≡ true) × (new ≡ record old { faults = next_count old.faults }))
