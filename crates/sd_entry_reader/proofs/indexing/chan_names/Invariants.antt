use Rattle.std.proofs.Common.{◌≡◌, map, take}
use Rattle.sd_entry_reader.proofs.indexing.chan_names.Given as goal

-- the names of those so far
abbrev pub invariant-loop-chan : goal.invariant-loop-chan
invariant-loop-chan l = l.names ≡ map (λ d. d.0.text.items) (take l.chan-index l.chans)
