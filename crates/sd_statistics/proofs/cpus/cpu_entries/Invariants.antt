use Rattle.std.proofs.Common.{◌≡◌, take}
use Rattle.sd_statistics.specs.Cpus.{cpu_entries}
use Rattle.sd_statistics.proofs.cpus.cpu_entries.Given as goal

abbrev pub invariant-loop-x : goal.invariant-loop-x
invariant-loop-x l = l.own.items ≡ cpu_entries l.c (take l.x-index l.happenings)
