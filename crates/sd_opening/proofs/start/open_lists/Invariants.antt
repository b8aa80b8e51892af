use Rattle.std.proofs.Common.{◌≡◌, map}
use Rattle.std.specs.List.{range_with_len}
use Rattle.sd_state.specs.Opening.{open_list}
use Rattle.sd_opening.proofs.start.open_lists.Given as goal

abbrev pub invariant-loop-p : goal.invariant-loop-p
invariant-loop-p l = l.lists.items ≡ map (open_list l.work) (range_with_len 0 l.p)
