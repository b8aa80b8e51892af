use Rattle.std.proofs.Common.{◌≡◌, ◌++◌, take}
use Rattle.std.specs.List.{flat_map}
use Rattle.sd_canonical.specs.Canonical.{script_text}
use Rattle.sd_canonical.proofs.scripts.put_scripts.Given as goal

abbrev pub invariant-loop-thread : goal.invariant-loop-thread
invariant-loop-thread l = l.out.items ≡ l.initial.out.items ++ flat_map (script_text l.work) (take l.thread-index l.work.threads)
