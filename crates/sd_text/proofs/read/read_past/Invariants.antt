use Rattle.std.proofs.Common.{◌+◌, ◌≡◌, List, ℕ, length}
use Rattle.std.specs.Io.KnownBytes.{Consumes}
use Rattle.sd_text.proofs.read.read_past.Given as goal

-- what was read so far is what the source has lost, and no fault was counted
abbrev pub invariant-reads : goal.invariant-reads
invariant-reads g l = record {
  bytes : List ℕ;
  count : length bytes + l.left ≡ l.initial.left;
  room : length l.buffer ≡ 4096;
  taken : Consumes (g.S.Source.remaining l.initial.source) (g.S.Source.remaining l.source) bytes;
  no_fault : g.S.Source.fault_count l.source ≡ g.S.Source.fault_count l.initial.source;
}

abbrev pub decreases-reads : goal.decreases-reads
decreases-reads g l = l.left
