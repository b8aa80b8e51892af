use Rattle.std.proofs.Common.{◌≡◌, ◌++◌, take}
use Rattle.std.specs.List.{flat_map}
use Rattle.sd_report.specs.SetSheets.{line_rows}
use Rattle.sd_report.proofs.set_sheets.put_set_rows.Given as goal

abbrev pub invariant-loop-x : goal.invariant-loop-x
invariant-loop-x l = l.out.items ≡ l.initial.out.items ++ flat_map (line_rows l.work) (take l.x-index l.lines)
