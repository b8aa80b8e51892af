use Rattle.std.proofs.Common.{◌≡◌, ◌++◌, take}
use Rattle.std.specs.List.{flat_map}
use Rattle.sd_canonical.specs.Canonical.{thread_text}
use Rattle.sd_canonical.proofs.threads.put_threads.Given as goal

abbrev pub invariant-loop-thread : goal.invariant-loop-thread
invariant-loop-thread l = l.out.items ≡ l.initial.out.items ++ flat_map (thread_text l.work) (take l.thread-index l.work.threads)
