use Rattle.std.proofs.Common.{◌≡◌, ◌++◌}
use Rattle.std.specs.List.{flat_map, range_with_len}
use Rattle.sd_search_answers.specs.Lefts.{line_if_left}
use Rattle.sd_search_answers.proofs.lefts.write_lefts.Given as goal

abbrev pub invariant-loop-t : goal.invariant-loop-t
invariant-loop-t l = l.out.items ≡ l.initial.out.items ++ flat_map (line_if_left l.work l.state) (range_with_len 0 l.t)
