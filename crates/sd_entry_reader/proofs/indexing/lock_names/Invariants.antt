use Rattle.std.proofs.Common.{◌≡◌, map, take}
use Rattle.sd_entry_reader.proofs.indexing.lock_names.Given as goal

-- the names of those so far
abbrev pub invariant-loop-lock : goal.invariant-loop-lock
invariant-loop-lock l = l.names ≡ map (λ d. d.0.text.items) (take l.lock-index l.locks)
