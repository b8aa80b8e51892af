-- The rows that the numbers of a table file's row lines make.
use Rattle.std.specs.Prelude.{ℕ, List, slice_index}
use Rattle.sd_types.specs.declared.tables.TsRow.{TsRow}
use Rattle.sd_types.specs.declared.tables.FixedRow.{FixedRow}
use Rattle.sd_types.specs.Ticks.{ticks_of}

unfoldable pub ts_row_of : ℕ → ℕ → List ℕ → TsRow
ts_row_of hz res numbers = record {
  quantum = slice_index numbers 0;
  ticks = ticks_of (slice_index numbers 0) hz res;
  tqexp = slice_index numbers 1;
  slpret = slice_index numbers 2;
  maxwait = slice_index numbers 3;
  lwait = slice_index numbers 4;
}

unfoldable pub fixed_row_of : ℕ → ℕ → List ℕ → FixedRow
fixed_row_of hz res numbers = record { quantum = slice_index numbers 0; ticks = ticks_of (slice_index numbers 0) hz res }
