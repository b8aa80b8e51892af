use Rattle.std.proofs.Common.{◌≡◌, ◌+◌, drop}
use Rattle.sd_types.specs.Partitions.{set_naming}
use Rattle.sd_rules.proofs.partitions.set_of_cpu.Given as goal

abbrev pub invariant-loop-index : goal.invariant-loop-index
invariant-loop-index l = set_naming l.c.0 1 l.sets ≡ set_naming l.c.0 (1 + l.index) (drop l.index l.sets)
