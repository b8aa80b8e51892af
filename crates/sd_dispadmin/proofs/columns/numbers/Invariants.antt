use Rattle.std.proofs.Common.{◌≡◌, ◌+◌, ◌-◌, ◌≤◌, ◌++◌, length, drop}
use Rattle.std.specs.List.{list_all}
use Rattle.sd_text.specs.Words.{words_of}
use Rattle.sd_text.specs.Numbers.{is_number}
use Rattle.sd_dispadmin.specs.TableText.{numbers_of}
use Rattle.sd_dispadmin.proofs.columns.numbers.Given as goal

-- the numbers so far and those of what is left are those of the line
abbrev pub invariant-loop-start : goal.invariant-loop-start
invariant-loop-start l = record {
  within : l.from ≤ length l.line;
  room : length l.found.items ≤ length l.columns;
  count : length l.found.items + length (words_of (drop l.from l.line)) ≡ length (words_of l.line);
  numbers : list_all is_number (words_of l.line) ≡ list_all is_number (words_of (drop l.from l.line));
  values : l.found.items ++ numbers_of (words_of (drop l.from l.line)) ≡ numbers_of (words_of l.line);
}

abbrev pub decreases-loop-start : goal.decreases-loop-start
decreases-loop-start l = length l.line - l.from
