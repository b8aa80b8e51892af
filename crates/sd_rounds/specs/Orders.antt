-- In which order the processors have their turns in each round: rising, or drawn from a seed.
-- Source: O'Neill, "PCG" (the generator); the Fisher-Yates shuffle; that each round begins from the rising order is this
-- project's own.
use Rattle.std.specs.Prelude.{ℕ, zero, suc, ◌-◌, ◌%◌, List, length, swap, Option, Some, None}
use Rattle.rand_pcg.specs.Lcg.{Lcg, started, increment_of}
use Rattle.rand_pcg.specs.Pcg.{multiplier_64, pcg32}
use Rattle.sd_types.specs.declared.numbers.CpuId.{CpuId}
use Rattle.sd_types.specs.declared.works.Work.{Work}
use Rattle.sd_machine.specs.Runs.{rising}
use Rattle.sd_rounds.specs.declared.orders.RoundOrder.{RoundOrder}
use Rattle.sd_rounds.specs.declared.orders.RoundOrder.TheVariants.{Rising, Drawn}

-- from the item at this index down to that at index 1, each is exchanged with one that is drawn among those up to it
unfoldable pub shuffled : ℕ → Lcg → List CpuId → List CpuId × Lcg
shuffled zero g xs = (xs, g)
shuffled (suc i) g xs = shuffled i (pcg32 g).1 (swap xs (suc i) ((pcg32 g).0 % suc (suc i)))

-- the order of a round and the generator after it, from the processors in rising order and the generator before it
abbrev pub drawn_from : List CpuId → Lcg → List CpuId × Lcg
drawn_from xs g = shuffled (length xs - 1) g xs

-- the generator after so many rounds; a run has one
unfoldable pub generator : Work → ℕ → ℕ → Lcg
generator w seed zero = started 64 multiplier_64 seed (increment_of 64 1)
generator w seed (suc k) = (drawn_from (rising w) (generator w seed k)).1

-- the order of each round
abbrev pub orders_of : Work → RoundOrder → ℕ → List CpuId
orders_of w Rising k = rising w
orders_of w (Drawn seed) k = (drawn_from (rising w) (generator w seed k)).0

-- where no order is drawn there is no generator
abbrev pub generator_at : Work → RoundOrder → ℕ → Option Lcg
generator_at w Rising k = None
generator_at w (Drawn seed) k = Some (generator w seed k)

abbrev pub next_order : List CpuId → Option Lcg → List CpuId × Option Lcg
next_order xs None = (xs, None)
next_order xs (Some g) = ((drawn_from xs g).0, Some (drawn_from xs g).1)
