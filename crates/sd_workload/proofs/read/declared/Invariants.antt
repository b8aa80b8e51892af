use Rattle.std.proofs.Common.{◌≡◌, ◌+◌, ◌-◌, ◌≤◌, length}
use Rattle.sd_declare.specs.Kept.{declarations}
use Rattle.sd_workload.specs.LineStarts.{judged_from}
use Rattle.sd_workload.specs.Texts.{Outside, verdict_of}
use Rattle.sd_workload.proofs.read.declared.Given as goal

-- no line so far is at fault
abbrev pub invariant-lines : goal.invariant-lines
invariant-lines l = record {
  within : l.at.from ≤ length l.bytes + 1;
  numbered : l.at.number ≤ l.at.from + 1;
  rest : verdict_of l.bytes ≡ judged_from l.bytes l.at (declarations l.d) Outside;
}

abbrev pub decreases-lines : goal.decreases-lines
decreases-lines l = length l.bytes + 2 - l.at.from
