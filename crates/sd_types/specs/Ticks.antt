-- The ticks of a quantum: ceiling (quantum × hz / RES). Source: ts_dptbl(4), dispadmin(1M).
use Rattle.std.specs.Prelude.{ℕ, ◌+◌, ◌-◌, ◌*◌, ◌/◌, Bool, ◌==◌}
use Rattle.std.specs.List.{list_all}
use Rattle.sd_types.specs.declared.tables.TsTable.{TsTable}
use Rattle.sd_types.specs.declared.tables.FixedTable.{FixedTable}

abbrev pub ticks_of : ℕ → ℕ → ℕ → ℕ
ticks_of quantum hz res = (quantum * hz + (res - 1)) / res

-- the ticks of each row are those of its quantum
abbrev pub ts_ticks_fit : ℕ → TsTable → Bool
ts_ticks_fit hz t = list_all (λ r. r.ticks == ticks_of r.quantum hz t.res) t.rows

abbrev pub fixed_ticks_fit : ℕ → FixedTable → Bool
fixed_ticks_fit hz t = list_all (λ r. r.ticks == ticks_of r.quantum hz t.res) t.rows
