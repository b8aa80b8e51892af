-- Whether the numbers of a class state are in their ranges, as a test.
use Rattle.std.specs.Prelude.{ℕ, Bool, ◌&&◌, ◌==◌, pos, negsuc, nat_le, int_le}
use Rattle.sd_types.specs.ClassNumbers.{TsNumbers, FxNumbers, SysNumbers, RtNumbers}
use Rattle.sd_types.specs.declared.classes.Quantum.{Quantum}
use Rattle.sd_types.specs.declared.classes.Quantum.TheVariants.{Def, Inf, Ticks}

-- a quantum that a thread may have, with ticks left of a finite one, and none of an infinite one
unfoldable pub is_quantum : Quantum → ℕ → Bool
is_quantum Def left = nat_le 1 left
is_quantum Inf left = left == 0
is_quantum (Ticks n) left = nat_le 1 n && (nat_le n 1000000 && nat_le 1 left)

unfoldable pub is_ts : TsNumbers → Bool
is_ts s = nat_le s.cpupri 59 && (int_le (negsuc 59) s.limit && (int_le s.limit (pos 60) && (int_le (negsuc 59) s.upri && (int_le s.upri s.limit && (nat_le 1 s.left && nat_le s.wait 32767)))))

unfoldable pub is_fx : FxNumbers → Bool
is_fx s = nat_le s.limit 60 && (nat_le s.pri s.limit && is_quantum s.quantum s.left)

unfoldable pub is_sys : SysNumbers → Bool
is_sys s = nat_le 60 s.pri && nat_le s.pri 99

unfoldable pub is_rt : RtNumbers → Bool
is_rt s = nat_le s.pri 59 && is_quantum s.quantum s.left
