-- How large the numbers of a conversion into ticks are.
use Rattle.std.proofs.Common.{ℕ, ◌+◌, ◌-◌, ◌*◌, ◌^◌, ◌<◌, ◌≤◌, zero, arith}
use Rattle.std.proofs.Math.Nat.{le-div_iff_mul-le, mul-le-mul}
use Rattle.sd_types.specs.Ticks.{ticks_of}

-- a quantum times hz fits
pub most_units : (quantum hz : ℕ) → quantum ≤ 1000000000 → hz < 2 ^ 32 → quantum * hz ≤ 1000000000 * 2 ^ 32
most_units quantum hz q h = mul-le-mul q (let le : hz ≤ 2 ^ 32 = omega arith in le)

-- a quantum is at least one tick
pub some_ticks : (quantum hz res : ℕ) → 1 ≤ quantum → 1 ≤ hz → 1 ≤ res → 1 ≤ ticks_of quantum hz res
some_ticks quantum hz res q h r =
    let units : 1 * 1 ≤ quantum * hz = mul-le-mul q h in
    let some : zero < res = omega arith in
    let enough : 1 * res ≤ quantum * hz + (res - 1) = omega arith in
    (le-div_iff_mul-le some).1 enough
