use Rattle.std.proofs.Common.{◌≡◌, [], take}
use Rattle.std.specs.Prelude.{filter}
use Rattle.sd_deadlines.specs.JobLines.{is_start}
use Rattle.sd_deadlines.proofs.job_lines.start.Given as goal

abbrev pub invariant-loop-x : goal.invariant-loop-x
invariant-loop-x l = filter (is_start l.t l.job) (take l.x-index l.told) ≡ []
