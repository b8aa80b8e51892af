use Rattle.std.proofs.Common.{◌≡◌, ◌++◌, take}
use Rattle.std.specs.List.{flat_map}
use Rattle.sd_report.specs.Sheets.{sheet_row}
use Rattle.sd_report.proofs.sheets.put_rows.Given as goal

abbrev pub invariant-loop-x : goal.invariant-loop-x
invariant-loop-x l = l.out.items ≡ l.initial.out.items ++ flat_map (sheet_row l.work) (take l.x-index l.rows)
