use Rattle.std.proofs.Common.{◌≡◌, ◌==◌, true, length}
use Rattle.std.specs.List.{list_all}
use Rattle.sd_types.specs.Rows.{ts_row_fits}
use Rattle.sd_types.specs.Ticks.{ticks_of}
use Rattle.sd_class_tests.proofs.tables.ts_table.Given as goal

abbrev pub invariant-loop-level : goal.invariant-loop-level
invariant-loop-level l = record {
  long : length l.rows.items ≡ l.level;
  fits : list_all ts_row_fits l.rows.items ≡ true;
  ticks : list_all (λ r. r.ticks == ticks_of r.quantum 100 1000) l.rows.items ≡ true;
}
