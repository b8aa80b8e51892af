use Rattle.std.proofs.Common.{◌≡◌}
use Rattle.std.specs.List.{flat_map, range_with_len}
use Rattle.sd_deadlines.specs.Numbering.{chan_tasks}
use Rattle.sd_deadlines.proofs.numbering.found_tasks.Given as goal

abbrev pub invariant-loop-k : goal.invariant-loop-k
invariant-loop-k l = l.tasks.items ≡ flat_map (chan_tasks l.work) (range_with_len 0 l.k)
