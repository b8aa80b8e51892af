use Rattle.std.proofs.Common.{◌≡◌, ◌≤◌, ◌==◌, length, map, filter}
use Rattle.std.specs.List.{range_with_len}
use Rattle.sd_types.specs.Partitions.{set_of_cpu, cpu_of_number}
use Rattle.sd_rules.proofs.partitions.cpus_of_set.Given as goal

abbrev pub invariant-loop-cpu : goal.invariant-loop-cpu
invariant-loop-cpu l = record {
  cpus : l.cpus.items ≡ map cpu_of_number (filter (λ c. set_of_cpu l.work c == l.p.0) (range_with_len 0 l.cpu));
  few : length l.cpus.items ≤ l.cpu;
}
