-- Lists of processors.
use Rattle.std.specs.Prelude.{Bool, true, ◌&&◌, List, [], ◌∷◌, nat_lt}
use Rattle.std.specs.List.{list_all}
use Rattle.sd_types.specs.declared.numbers.CpuId.{CpuId}

-- each processor has a smaller number than all behind it
abbrev pub is_rising : List CpuId → Bool
is_rising [] = true
is_rising (c ∷ cs) = list_all (λ d. nat_lt c.0 d.0) cs && is_rising cs
