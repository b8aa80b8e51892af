use Rattle.std.proofs.Common.{◌≡◌, ◌≤◌, length, take}
use Rattle.sd_machine.specs.Changes.{without_cpu}
use Rattle.sd_flat.proofs.sets.without_cpu.Given as goal

abbrev pub invariant-loop-d : goal.invariant-loop-d
invariant-loop-d l =
    (l.rest.items ≡ without_cpu l.c (take l.d-index l.d-items)) × (length l.rest.items ≤ l.d-index)
