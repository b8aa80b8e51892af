-- The orders in which the search for a choice compares two processors with their hints.
use Rattle.std.specs.Prelude.{◌≡◌, ℕ, ◌<◌, Bool, false, not, ◌&&◌, ◌||◌, List, nat_lt, ◌==◌, slice_index, slice_index_or, if◌then◌else◌}
use Rattle.sd_types.specs.declared.numbers.CpuId.{CpuId}

abbrev pub is_less_busy : CpuId → CpuId → ℕ → CpuId → ℕ → Bool
is_less_busy last c hint d other =
    if hint == other then not (d.0 == last.0) && ((c.0 == last.0) || nat_lt c.0 d.0) else nat_lt hint other

abbrev pub is_busier : CpuId → ℕ → CpuId → ℕ → Bool
is_busier c hint d other = if hint == other then nat_lt c.0 d.0 else nat_lt other hint

abbrev pub no_cpu : CpuId
no_cpu = record { 0 = 0 }

-- of the first n processors none comes before this one
abbrev pub IsBestByHintsAt : List CpuId → List ℕ → CpuId → ℕ → ℕ → Type 0
IsBestByHintsAt cpus hints last n best = (k : ℕ) → k < n
    → is_less_busy last (slice_index_or cpus k no_cpu) (slice_index hints k) (slice_index_or cpus best no_cpu) (slice_index hints best) ≡ false

abbrev pub IsBusiestAt : List CpuId → List ℕ → ℕ → ℕ → Type 0
IsBusiestAt cpus hints n best = (k : ℕ) → k < n
    → is_busier (slice_index_or cpus k no_cpu) (slice_index hints k) (slice_index_or cpus best no_cpu) (slice_index hints best) ≡ false
