-- Global priorities: the base priority of a class state, and the effective priority with what is inherited.
-- A greater number runs first: TS and FX levels have 0 to 60, SYS threads 60 to 99, RT levels 100 to 159.
-- Source: Solaris Internals (global priorities, priority inheritance).
use Rattle.std.specs.Prelude.{ℕ, ◌+◌, min, max, List, [], ◌∷◌, ℤ, pos, negsuc, ◌+ℤ◌}
use Rattle.sd_types.specs.declared.numbers.LockId.{LockId}
use Rattle.sd_types.specs.declared.classes.ClassState.{ClassState}
use Rattle.sd_types.specs.declared.classes.ClassState.TheVariants.{Ts, Fx, Sys, Rt}
use Rattle.sd_types.specs.declared.bodies.ThreadBody.{ThreadBody}
use Rattle.sd_types.specs.ClassNumbers.{TsNumbers}

-- 0 for a negative number
abbrev pub at_least_zero : ℤ → ℕ
at_least_zero (pos n) = n
at_least_zero (negsuc n) = 0

-- the sum of ts_cpupri and the user priority, within 0 to 59
abbrev pub umdpri : TsNumbers → ℕ
umdpri s = min (at_least_zero (pos s.cpupri +ℤ s.upri)) 59

-- the least priority of a real-time thread
abbrev pub real_time_priority : ℕ
real_time_priority = 100

-- the base priority
abbrev pub base_of : ClassState → ℕ
base_of (Ts s) = umdpri s
base_of (Fx s) = s.pri
base_of (Sys s) = s.pri
base_of (Rt s) = real_time_priority + s.pri

-- the greatest of a number and the inherited priorities
abbrev pub greatest_willed : ℕ → List (LockId × ℕ) → ℕ
greatest_willed n [] = n
greatest_willed n (w ∷ ws) = max w.1 (greatest_willed n ws)

-- the effective priority that the thread would have in this class state
abbrev pub eff_as : ClassState → ThreadBody → ℕ
eff_as class b = greatest_willed (base_of class) b.willed.items

-- the effective priority: the maximum of the base priority and all inherited ones
abbrev pub eff : ThreadBody → ℕ
eff b = eff_as b.class b
