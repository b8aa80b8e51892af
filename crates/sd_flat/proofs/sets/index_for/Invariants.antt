use Rattle.std.proofs.Common.{◌≡◌, ◌++◌, take, drop}
use Rattle.sd_machine.specs.Changes.{with_cpu_in}
use Rattle.sd_flat.proofs.sets.index_for.Given as goal

abbrev pub invariant-loop-index : goal.invariant-loop-index
invariant-loop-index l = with_cpu_in l.c l.cpus ≡ take l.index l.cpus ++ with_cpu_in l.c (drop l.index l.cpus)
