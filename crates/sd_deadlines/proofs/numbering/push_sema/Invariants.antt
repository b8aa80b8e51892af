use Rattle.std.proofs.Common.{◌≡◌, ◌++◌}
use Rattle.std.specs.List.{flat_map, range_with_len}
use Rattle.sd_deadlines.specs.Numbering.{found_task}
use Rattle.sd_deadlines.proofs.numbering.push_sema.Given as goal

abbrev pub invariant-loop-t : goal.invariant-loop-t
invariant-loop-t l = l.tasks.items ≡ l.initial.tasks.items ++ flat_map (found_task l.work l.k) (range_with_len 0 l.t)
