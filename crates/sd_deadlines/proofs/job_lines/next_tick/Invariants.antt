use Rattle.std.proofs.Common.{◌≡◌, [], take}
use Rattle.std.specs.Prelude.{filter}
use Rattle.sd_deadlines.specs.JobLines.{ticks_on}
use Rattle.sd_deadlines.proofs.job_lines.next_tick.Given as goal

abbrev pub invariant-loop-x : goal.invariant-loop-x
invariant-loop-x l = filter (ticks_on l.c) (take l.x-index l.rest) ≡ []
