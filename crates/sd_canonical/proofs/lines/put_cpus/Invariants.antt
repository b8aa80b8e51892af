use Rattle.std.proofs.Common.{◌≡◌, ◌++◌, take}
use Rattle.sd_canonical.specs.Lines.{cpu_words}
use Rattle.sd_canonical.specs.Canonical.{spaced}
use Rattle.sd_canonical.proofs.lines.put_cpus.Given as goal

abbrev pub invariant-loop-cpu : goal.invariant-loop-cpu
invariant-loop-cpu l = l.out.items ≡ l.initial.out.items ++ spaced (cpu_words (take l.cpu-index l.cpus))
