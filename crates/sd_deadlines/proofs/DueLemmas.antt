-- When a job is due, without its tick.
use Rattle.std.proofs.Common.{◌≡◌, ℕ, ◌+◌, ◌-◌, arith}
use Rattle.std.specs.Prelude.{◌&&◌, nat_le, nat_lt}
use Rattle.std.proofs.lemmas.Bool.Decides.{nat_tests}

pub behind_due : (release ticks tick : ℕ) → nat_lt ticks (tick - release) ≡ nat_lt (release + ticks) tick
behind_due release ticks tick = grind (arith, nat_tests)

pub come_to_due : (release ticks end : ℕ) → (nat_le release end && nat_le ticks (end - release)) ≡ nat_le (release + ticks) end
come_to_due release ticks end = grind (arith, nat_tests)
