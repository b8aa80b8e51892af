-- The choices as functions, for definitions of a machine that compute them.
-- Source: Solaris Internals (choosing a processor, stealing); hints and ties are this project's own.
use Rattle.std.specs.Prelude.{ℕ, Bool, ◌&&◌, List, [], ◌∷◌, min, max, ◌==◌, Option, Some, None, if◌then◌else◌}
use Rattle.sd_types.specs.declared.numbers.CpuId.{CpuId}
use Rattle.sd_rules.specs.Choices.{is_among}

-- the least and the greatest of the hints, 0 where there is none
abbrev pub least_hint : List ℕ → ℕ
least_hint [] = 0
least_hint (h ∷ []) = h
least_hint (h ∷ g ∷ hs) = min h (least_hint (g ∷ hs))

abbrev pub greatest_hint : List ℕ → ℕ
greatest_hint [] = 0
greatest_hint (h ∷ hs) = max h (greatest_hint hs)

-- the processors that have this hint
abbrev pub with_hint : ℕ → List CpuId → List ℕ → List CpuId
with_hint hint (c ∷ cs) (h ∷ hs) = if h == hint then (c ∷ with_hint hint cs hs) else with_hint hint cs hs
with_hint hint (c ∷ cs) [] = []
with_hint hint [] hs = []

-- the one with the least number; of none processor 0
abbrev pub least_number : List CpuId → CpuId
least_number [] = record { 0 = 0 }
least_number (c ∷ []) = c
least_number (c ∷ d ∷ ds) = record { 0 = min c.0 (least_number (d ∷ ds)).0 }

-- the last processor where it is one of these, and else the one with the least number
abbrev pub preferred : CpuId → List CpuId → CpuId
preferred last cpus = if is_among last cpus then last else least_number cpus

-- the processor to which a thread goes
abbrev pub chosen : List CpuId → List ℕ → CpuId → Bool → CpuId
chosen cpus hints last warm =
    if warm && is_among last cpus then last else preferred last (with_hint (least_hint hints) cpus hints)

-- the processor from which a thread is stolen
abbrev pub victim_of : List CpuId → List ℕ → Option CpuId
victim_of cpus hints =
    if greatest_hint hints == 0 then None else Some (least_number (with_hint (greatest_hint hints) cpus hints))
