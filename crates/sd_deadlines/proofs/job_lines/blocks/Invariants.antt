use Rattle.std.proofs.Common.{◌≡◌, take}
use Rattle.std.specs.List.{flat_map}
use Rattle.sd_deadlines.specs.JobLines.{block}
use Rattle.sd_deadlines.proofs.job_lines.blocks.Given as goal

abbrev pub invariant-loop-x : goal.invariant-loop-x
invariant-loop-x l = l.found.items ≡ flat_map (block l.t) (take l.x-index l.happenings)
