use Rattle.std.proofs.Common.{◌+◌, ◌-◌, ◌≤◌, length}
use Rattle.sd_answers.specs.Passing.{HasPassed}
use Rattle.sd_answers.proofs.cuts.find_cut.Given as goal

abbrev pub invariant-lines : goal.invariant-lines
invariant-lines l = record {
  passed : HasPassed l.text l.from;
  within : l.from ≤ length l.text + 1;
}

abbrev pub decreases-lines : goal.decreases-lines
decreases-lines l = length l.text + 2 - l.from
