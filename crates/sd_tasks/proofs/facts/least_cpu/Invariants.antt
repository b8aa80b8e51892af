use Rattle.std.proofs.Common.{◌≡◌, ◌+◌, ◌-◌, eqb}
use Rattle.std.specs.List.{position_or_len, range_with_len}
use Rattle.sd_tasks.specs.Above.{partition}
use Rattle.sd_tasks.specs.Kept.{above_kept}
use Rattle.sd_tasks.proofs.facts.least_cpu.Given as goal

-- it is not among those that were asked
abbrev pub invariant-loop-cpu : goal.invariant-loop-cpu
invariant-loop-cpu l =
    l.cpu + position_or_len (λ c. eqb (partition (above_kept l.facts) c) l.set) (range_with_len l.cpu (l.facts.cpus - l.cpu))
    ≡ position_or_len (λ c. eqb (partition (above_kept l.facts) c) l.set) (range_with_len 0 l.facts.cpus)
