use Rattle.std.proofs.Common.{◌≡◌, ◌-◌, ◌≤◌, ◌++◌, length, drop}
use Rattle.std.specs.Option.{option_map}
use Rattle.sd_text.specs.Words.{words_of}
use Rattle.sd_lines.specs.Words.{all_numbers}
use Rattle.sd_lines.proofs.words.all_numbers.Given as goal

-- the numbers so far and those of what is left are those of the line
abbrev pub invariant-loop-start : goal.invariant-loop-start
invariant-loop-start l = record {
  inside : l.from ≤ length l.rest;
  numbers : option_map (λ ns. l.found.items ++ ns) (all_numbers (words_of (drop l.from l.rest))) ≡ all_numbers (words_of l.rest);
}

abbrev pub decreases-loop-start : goal.decreases-loop-start
decreases-loop-start l = length l.rest - l.from
