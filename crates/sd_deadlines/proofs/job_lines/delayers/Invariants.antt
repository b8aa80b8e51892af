use Rattle.std.proofs.Common.{◌≡◌, [], length}
use Rattle.sd_deadlines.specs.JobLines.{delayers_from}
use Rattle.sd_deadlines.proofs.job_lines.delayers.Given as goal

abbrev pub invariant-loop-d : goal.invariant-loop-d
invariant-loop-d l = delayers_from l.job l.seen.items l.left ≡ delayers_from l.job [] l.delays

abbrev pub decreases-loop-d : goal.decreases-loop-d
decreases-loop-d l = length l.left
