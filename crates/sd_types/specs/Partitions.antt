-- The partitions of a workload: set 0 has the processors that no set names, and set i the processors of the
-- i-th declared set. Source: psrset(1M).
use Rattle.std.specs.Prelude.{ℕ, ◌+◌, List, [], ◌∷◌, filter, map, ◌==◌, cond}
use Rattle.std.specs.List.{list_any, range_with_len}
use Rattle.sd_types.specs.declared.numbers.CpuId.{CpuId}
use Rattle.sd_types.specs.declared.names.Name.{Name}
use Rattle.sd_types.specs.declared.works.Work.{Work}

-- the number of the first of these sets, counted from n, that names the processor, or 0
abbrev pub set_naming : ℕ → ℕ → List (Name × List CpuId) → ℕ
set_naming c n [] = 0
set_naming c n (s ∷ ss) = cond (list_any (λ d. d.0 == c) s.1) n (set_naming c (n + 1) ss)

-- the set of a processor
abbrev pub set_of_cpu : Work → ℕ → ℕ
set_of_cpu w c = set_naming c 1 w.sets

abbrev pub cpu_of_number : ℕ → CpuId
cpu_of_number c = record { 0 = c }

-- the processors of a set, in rising order
abbrev pub cpus_of_set : Work → ℕ → List CpuId
cpus_of_set w p = map cpu_of_number (filter (λ c. set_of_cpu w c == p) (range_with_len 0 w.cpus))
