-- What a tick, a wakeup, a second of waiting and a requeue make of a class state, as functions on its numbers.
-- Source: Solaris Internals (the TS, FX and RT classes), ts_dptbl(4), rt_dptbl(4). This project's own: left, ts_tqexp,
-- ts_slpret and ts_lwait are read at the row of ts_cpupri and ts_maxwait at that of the base priority; a wakeup is one
-- however short the sleep was; an FX or RT wakeup begins a full quantum.
use Rattle.std.specs.Prelude.{ℕ, ◌+◌, ◌-◌, Bool, true, false, nat_le, nat_lt, if◌then◌else◌, length, min}
use Rattle.sd_types.specs.declared.classes.Quantum.{Quantum}
use Rattle.sd_types.specs.declared.classes.Quantum.TheVariants.{Def, Inf, Ticks}
use Rattle.sd_types.specs.declared.classes.ClassState.{ClassState}
use Rattle.sd_types.specs.declared.classes.ClassState.TheVariants.{Ts, Fx, Sys, Rt}
use Rattle.sd_types.specs.declared.events.End.{End}
use Rattle.sd_types.specs.declared.events.End.TheVariants.{Front, Back}
use Rattle.sd_types.specs.declared.tables.TsTable.{TsTable}
use Rattle.sd_types.specs.declared.tables.FixedTable.{FixedTable}
use Rattle.sd_types.specs.ClassNumbers.{TsNumbers, FxNumbers, RtNumbers}
use Rattle.sd_types.specs.TableRows.{ts_row_of, fixed_row_of}
use Rattle.sd_types.specs.Priorities.{umdpri}

-- The time-sharing class.

-- at this level, with the ticks of its row
abbrev pub ts_at_level : TsTable → TsNumbers → ℕ → TsNumbers
ts_at_level table s level = record s { cpupri = level; left = (ts_row_of table level).ticks }

-- the next tick is the last of the quantum
abbrev pub ts_expires : TsNumbers → Bool
ts_expires s = nat_le s.left 1

-- a tick of the running thread
unfoldable pub ts_tick : TsTable → TsNumbers → TsNumbers
ts_tick table s =
    if ts_expires s then ts_at_level table s (ts_row_of table s.cpupri).tqexp else record s { left = s.left - 1 }

-- a wakeup, from a nap, a sleep queue or a turnstile
unfoldable pub ts_wake : TsTable → TsNumbers → TsNumbers
ts_wake table s = record (ts_at_level table s (ts_row_of table s.cpupri).slpret) { wait = 0 }

-- one more second of waiting is longer than the row of the base priority allows
abbrev pub ts_is_lifted : TsTable → TsNumbers → Bool
ts_is_lifted table s = nat_lt (ts_row_of table (umdpri s)).maxwait (s.wait + 1)

-- a second on a dispatch queue
unfoldable pub ts_second : TsTable → TsNumbers → TsNumbers
ts_second table s =
    if ts_is_lifted table s then record s { cpupri = (ts_row_of table s.cpupri).lwait; wait = 0 } else record s { wait = s.wait + 1 }

-- the end of the dispatch queue for a thread that leaves its processor: the back where its quantum has expired
abbrev pub end_of : Bool → End
end_of true = Back
end_of false = Front

-- and what that leaves of its class state
abbrev pub ts_requeue : Bool → TsNumbers → TsNumbers
ts_requeue true s = record s { wait = 0 }
ts_requeue false s = s

-- The fixed-priority and real-time classes: the ticks of a full quantum at a level, 0 where it is infinite.
-- Where a table has no row for the level, as a fixed-priority table of 60 rows has none for 60, it is that of the last row.

abbrev pub row_level : FixedTable → ℕ → ℕ
row_level table level = min level (length table.rows - 1)

abbrev pub full_quantum : FixedTable → ℕ → Quantum → ℕ
full_quantum table level Def = (fixed_row_of table (row_level table level)).ticks
full_quantum table level Inf = 0
full_quantum table level (Ticks n) = n

abbrev pub is_finite : Quantum → Bool
is_finite Def = true
is_finite Inf = false
is_finite (Ticks n) = true

-- what a tick leaves of a quantum, of which left ticks are left
abbrev pub left_after_tick : Quantum → ℕ → ℕ → ℕ
left_after_tick quantum full left = if is_finite quantum then (if nat_le left 1 then full else left - 1) else left

abbrev pub quantum_expires : Quantum → ℕ → Bool
quantum_expires quantum left = if is_finite quantum then nat_le left 1 else false

unfoldable pub fx_tick : FixedTable → FxNumbers → FxNumbers
fx_tick table s = record s { left = left_after_tick s.quantum (full_quantum table s.pri s.quantum) s.left }

unfoldable pub fx_wake : FixedTable → FxNumbers → FxNumbers
fx_wake table s = record s { left = full_quantum table s.pri s.quantum }

unfoldable pub rt_tick : FixedTable → RtNumbers → RtNumbers
rt_tick table s = record s { left = left_after_tick s.quantum (full_quantum table s.pri s.quantum) s.left }

unfoldable pub rt_wake : FixedTable → RtNumbers → RtNumbers
rt_wake table s = record s { left = full_quantum table s.pri s.quantum }

-- Any class.

abbrev pub class_tick : TsTable → FixedTable → FixedTable → ClassState → ClassState
class_tick ts fx rt (Ts s) = Ts (ts_tick ts s)
class_tick ts fx rt (Fx s) = Fx (fx_tick fx s)
class_tick ts fx rt (Sys s) = Sys s
class_tick ts fx rt (Rt s) = Rt (rt_tick rt s)

-- the next tick ends the quantum
abbrev pub class_expires : ClassState → Bool
class_expires (Ts s) = ts_expires s
class_expires (Fx s) = quantum_expires s.quantum s.left
class_expires (Sys s) = false
class_expires (Rt s) = quantum_expires s.quantum s.left

abbrev pub class_wake : TsTable → FixedTable → FixedTable → ClassState → ClassState
class_wake ts fx rt (Ts s) = Ts (ts_wake ts s)
class_wake ts fx rt (Fx s) = Fx (fx_wake fx s)
class_wake ts fx rt (Sys s) = Sys s
class_wake ts fx rt (Rt s) = Rt (rt_wake rt s)

-- a thread is queued, at the back where its quantum has expired
abbrev pub class_requeue : Bool → ClassState → ClassState
class_requeue expired (Ts s) = Ts (ts_requeue expired s)
class_requeue expired (Fx s) = Fx s
class_requeue expired (Sys s) = Sys s
class_requeue expired (Rt s) = Rt s

-- a second on a dispatch queue, which the time-sharing class alone counts
abbrev pub class_second : TsTable → ClassState → ClassState
class_second ts (Ts s) = Ts (ts_second ts s)
class_second ts (Fx s) = Fx s
class_second ts (Sys s) = Sys s
class_second ts (Rt s) = Rt s
