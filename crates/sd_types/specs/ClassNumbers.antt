-- The numbers of a class state, and when they are in their ranges.
-- Source: Solaris Internals, ts_dptbl(4), rt_dptbl(4), priocntl(2); the ranges of user priorities are this project's own.
use Rattle.std.specs.Prelude.{◌≡◌, ℕ, ◌≤◌, ℤ, pos, negsuc, ◌≤ℤ◌}
use Rattle.sd_types.specs.Limits.{most_quantum_ticks}
use Rattle.sd_types.specs.declared.classes.Quantum.{Quantum}
use Rattle.sd_types.specs.declared.classes.Quantum.TheVariants.{Def, Inf, Ticks}

-- a time-sharing thread: left in ticks, wait in seconds
pub record TsNumbers : Type 0 where
  pub cpupri : ℕ
  pub limit : ℤ
  pub upri : ℤ
  pub left : ℕ
  pub wait : ℕ

pub record FxNumbers : Type 0 where
  pub limit : ℕ
  pub pri : ℕ
  pub quantum : Quantum
  pub left : ℕ

pub record SysNumbers : Type 0 where
  pub pri : ℕ

pub record RtNumbers : Type 0 where
  pub pri : ℕ
  pub quantum : Quantum
  pub left : ℕ

-- from -60 to 60, the range of a time-sharing user priority and of its limit
abbrev pub IsUserPriority : ℤ → Type 0
IsUserPriority z = (negsuc 59 ≤ℤ z) × (z ≤ℤ pos 60)

pub record IsTs (s : TsNumbers) : Type 0 where
  pub cpupri : s.cpupri ≤ 59
  pub limit : IsUserPriority s.limit
  pub upri : IsUserPriority s.upri
  pub under : s.upri ≤ℤ s.limit
  pub left : 1 ≤ s.left
  pub wait : s.wait ≤ 32767

-- a quantum that a thread may have: in ticks, from 1 to 1,000,000
abbrev pub IsQuantum : Quantum → Type 0
IsQuantum Def = Unit {0}
IsQuantum Inf = Unit {0}
IsQuantum (Ticks n) = (1 ≤ n) × (n ≤ most_quantum_ticks)

-- ticks are left of a finite quantum, and none are counted of an infinite one
abbrev pub IsLeft : Quantum → ℕ → Type 0
IsLeft Def left = 1 ≤ left
IsLeft Inf left = left ≡ 0
IsLeft (Ticks n) left = 1 ≤ left

pub record IsFx (s : FxNumbers) : Type 0 where
  pub limit : s.limit ≤ 60
  pub under : s.pri ≤ s.limit
  pub quantum : IsQuantum s.quantum
  pub left : IsLeft s.quantum s.left

pub record IsSys (s : SysNumbers) : Type 0 where
  pub least : 60 ≤ s.pri
  pub most : s.pri ≤ 99

pub record IsRt (s : RtNumbers) : Type 0 where
  pub pri : s.pri ≤ 59
  pub quantum : IsQuantum s.quantum
  pub left : IsLeft s.quantum s.left
