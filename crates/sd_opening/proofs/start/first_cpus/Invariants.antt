use Rattle.std.proofs.Common.{◌≡◌, map}
use Rattle.std.specs.List.{range_with_len}
use Rattle.sd_state.specs.Opening.{first_cpu_state}
use Rattle.sd_opening.proofs.start.first_cpus.Given as goal

abbrev pub invariant-loop-c : goal.invariant-loop-c
invariant-loop-c l = l.cpus.items ≡ map (first_cpu_state l.work) (range_with_len 0 l.c)
