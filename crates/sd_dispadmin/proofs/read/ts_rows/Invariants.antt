use Rattle.std.proofs.Common.{◌≡◌, map, take}
use Rattle.sd_dispadmin.specs.TableRows.{ts_row_of}
use Rattle.sd_dispadmin.proofs.read.ts_rows.Given as goal

abbrev pub invariant-loop-numbers : goal.invariant-loop-numbers
invariant-loop-numbers l = l.made.items ≡ map (ts_row_of l.hz l.res) (map (λ r. r.items) (take l.numbers-index l.rows))
