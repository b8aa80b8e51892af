use Rattle.std.proofs.Common.{◌≡◌, map, take}
use Rattle.sd_entry_reader.proofs.indexing.thread_names.Given as goal

-- the names of those so far
abbrev pub invariant-loop-thread : goal.invariant-loop-thread
invariant-loop-thread l = l.names ≡ map (λ d. d.name.text.items) (take l.thread-index l.threads)
