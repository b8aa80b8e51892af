-- The processor to which a thread goes, and the one from which a thread is stolen, each said by what
-- it is among all processors. A list of processors stands beside the list of their hints.
-- Source: Solaris Internals (choosing a processor, stealing); hints and ties are this project's own.
use Rattle.std.specs.Prelude.{◌≡◌, ◌≢◌, ℕ, ◌<◌, ◌≤◌, Bool, ◌&&◌, List, slice_get, Some, ◌==◌, MatchBool}
use Rattle.std.specs.List.{list_any}
use Rattle.sd_types.specs.declared.numbers.CpuId.{CpuId}

abbrev pub is_among : CpuId → List CpuId → Bool
is_among c cpus = list_any (λ d. d.0 == c.0) cpus

-- the processor has this hint
abbrev pub HasHint : List CpuId → List ℕ → CpuId → ℕ → Type 0
HasHint cpus hints c hint = (i : ℕ) × (slice_get cpus i ≡ Some c) × (slice_get hints i ≡ Some hint)

-- it is one of the processors, and none has a smaller hint
pub record IsLeastBusy (cpus : List CpuId) (hints : List ℕ) (c : CpuId) : Type 0 where
  pub hint : ℕ
  pub has : HasHint cpus hints c hint
  pub least : (d : CpuId) (other : ℕ) → HasHint cpus hints d other → hint ≤ other

-- one with the least hint: the last processor where it is such a one, and else the one with the least number
pub record IsBestByHints (cpus : List CpuId) (hints : List ℕ) (last : CpuId) (c : CpuId) : Type 0 where
  pub busy : IsLeastBusy cpus hints c
  pub stays : IsLeastBusy cpus hints last → c ≡ last
  pub first : c ≢ last → (d : CpuId) → IsLeastBusy cpus hints d → c.0 ≤ d.0

-- the processor to which a thread goes whose last processor this is: that one while the thread is warm there, and else
-- the best by the hints
abbrev pub IsChosen : List CpuId → List ℕ → CpuId → Bool → CpuId → Type 0
IsChosen cpus hints last warm c = MatchBool (warm && is_among last cpus) (c ≡ last) (IsBestByHints cpus hints last c)

-- the processor from which a thread is stolen: none has a greater hint than it, and of those with its hint it has the
-- least number; a hint of 0 says that nothing is queued
pub record IsVictim (cpus : List CpuId) (hints : List ℕ) (c : CpuId) : Type 0 where
  pub hint : ℕ
  pub has : HasHint cpus hints c hint
  pub some : 0 < hint
  pub greatest : (d : CpuId) (other : ℕ) → HasHint cpus hints d other → other ≤ hint
  pub first : (d : CpuId) → HasHint cpus hints d hint → c.0 ≤ d.0
