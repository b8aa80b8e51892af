-- Class states of any class whose numbers are in their ranges, and the base priorities that each class has.
-- Source: Solaris Internals (global priorities).
use Rattle.std.specs.Prelude.{ℕ, ◌≤◌}
use Rattle.sd_types.specs.declared.classes.ClassState.{ClassState}
use Rattle.sd_types.specs.declared.classes.ClassState.TheVariants.{Ts, Fx, Sys, Rt}
use Rattle.sd_types.specs.ClassNumbers.{IsTs, IsFx, IsSys, IsRt}
use Rattle.sd_types.specs.Priorities.{real_time_priority}

abbrev pub IsClassState : ClassState → Type 0
IsClassState (Ts s) = IsTs s
IsClassState (Fx s) = IsFx s
IsClassState (Sys s) = IsSys s
IsClassState (Rt s) = IsRt s

-- TS has 0 to 59, FX 0 to 60, SYS 60 to 99, RT 100 to 159
abbrev pub IsBaseOf : ClassState → ℕ → Type 0
IsBaseOf (Ts s) base = base ≤ 59
IsBaseOf (Fx s) base = base ≤ 60
IsBaseOf (Sys s) base = (60 ≤ base) × (base ≤ 99)
IsBaseOf (Rt s) base = (real_time_priority ≤ base) × (base ≤ 159)
