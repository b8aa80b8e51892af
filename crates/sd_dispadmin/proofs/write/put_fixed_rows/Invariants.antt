use Rattle.std.proofs.Common.{◌≡◌, ◌++◌, map, drop}
use Rattle.sd_text.specs.Lines.{text_of_lines}
use Rattle.sd_dispadmin.specs.TableText.{fixed_numbers}
use Rattle.sd_dispadmin.specs.TableSpelling.{row_texts}
use Rattle.sd_dispadmin.proofs.write.put_fixed_rows.Given as goal

-- what was written and the lines of the rows that are left are what stood there and the lines of all rows
abbrev pub invariant-loop-level : goal.invariant-loop-level
invariant-loop-level l =
    l.out.items ++ text_of_lines (row_texts (map fixed_numbers (drop l.level l.rows)) l.level)
    ≡ l.initial.out.items ++ text_of_lines (row_texts (map fixed_numbers l.rows) 0)
