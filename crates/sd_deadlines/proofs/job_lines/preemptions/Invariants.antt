use Rattle.std.proofs.Common.{◌≡◌, ◌++◌, length}
use Rattle.sd_deadlines.specs.JobLines.{preemptions}
use Rattle.sd_deadlines.proofs.job_lines.preemptions.Given as goal

abbrev pub invariant-loop-x : goal.invariant-loop-x
invariant-loop-x l = l.found.items ++ preemptions l.t l.left ≡ preemptions l.t l.happenings

abbrev pub decreases-loop-x : goal.decreases-loop-x
decreases-loop-x l = length l.left
