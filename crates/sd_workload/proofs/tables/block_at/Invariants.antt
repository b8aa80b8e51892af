use Rattle.std.proofs.Common.{◌≡◌, ◌+◌, ◌-◌, ◌≤◌, ◌++◌, not, true, length}
use Rattle.std.specs.List.{list_all}
use Rattle.sd_dispadmin.specs.TableText.{word_lines}
use Rattle.sd_lines.specs.Words.{is_end}
use Rattle.sd_workload.specs.LineStarts.{lines_from}
use Rattle.sd_workload.proofs.LineLemmas.{IsClosed}
use Rattle.sd_workload.proofs.tables.block_at.Given as goal

-- the lines that were passed are in the text
abbrev pub invariant-lines : goal.invariant-lines
invariant-lines l = record {
  lines : lines_from l.bytes l.fn.at ≡ word_lines l.text.items ++ lines_from l.bytes l.here;
  closes : list_all (λ line. not (is_end line)) (word_lines l.text.items) ≡ true;
  closed : IsClosed l.text.items;
  number : l.here.number ≡ l.fn.at.number + length (word_lines l.text.items);
  short : length l.text.items + l.fn.at.from ≤ l.here.from;
  within : l.here.from ≤ length l.bytes + 1;
  numbered : l.here.number ≤ l.here.from + 1;
}

abbrev pub decreases-lines : goal.decreases-lines
decreases-lines l = length l.bytes + 2 - l.here.from
