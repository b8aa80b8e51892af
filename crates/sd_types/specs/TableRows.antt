-- The row of a level. Past the last level it is a row of zeros, which no table has.
use Rattle.std.specs.Prelude.{ℕ, slice_index_or}
use Rattle.sd_types.specs.declared.tables.TsRow.{TsRow}
use Rattle.sd_types.specs.declared.tables.FixedRow.{FixedRow}
use Rattle.sd_types.specs.declared.tables.TsTable.{TsTable}
use Rattle.sd_types.specs.declared.tables.FixedTable.{FixedTable}

abbrev pub no_ts_row : TsRow
no_ts_row = record { quantum = 0; ticks = 0; tqexp = 0; slpret = 0; maxwait = 0; lwait = 0 }

abbrev pub ts_row_of : TsTable → ℕ → TsRow
ts_row_of t level = slice_index_or t.rows level no_ts_row

abbrev pub no_fixed_row : FixedRow
no_fixed_row = record { quantum = 0; ticks = 0 }

abbrev pub fixed_row_of : FixedTable → ℕ → FixedRow
fixed_row_of t level = slice_index_or t.rows level no_fixed_row
