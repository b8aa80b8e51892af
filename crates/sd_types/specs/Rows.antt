-- When the numbers of a row lie in their ranges. Source: ts_dptbl(4), rt_dptbl(4); the greatest values are this project's own.
use Rattle.std.specs.Prelude.{Bool, ◌&&◌, nat_le}
use Rattle.sd_types.specs.Limits.{most_quantum_units}
use Rattle.sd_types.specs.declared.tables.TsRow.{TsRow}
use Rattle.sd_types.specs.declared.tables.FixedRow.{FixedRow}

abbrev pub ts_row_fits : TsRow → Bool
ts_row_fits r =
    nat_le 1 r.quantum && nat_le r.quantum most_quantum_units && nat_le 1 r.ticks
    && nat_le r.tqexp 59 && nat_le r.slpret 59 && nat_le r.maxwait 32767 && nat_le r.lwait 59

abbrev pub fixed_row_fits : FixedRow → Bool
fixed_row_fits r = nat_le 1 r.quantum && nat_le r.quantum most_quantum_units && nat_le 1 r.ticks
