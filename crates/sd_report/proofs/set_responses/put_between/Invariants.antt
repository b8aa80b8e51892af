use Rattle.std.proofs.Common.{◌≡◌, ◌++◌}
use Rattle.std.specs.List.{flat_map, range_with_len}
use Rattle.sd_report.specs.SetResponses.{response_at}
use Rattle.sd_report.proofs.set_responses.put_between.Given as goal

abbrev pub invariant-loop-i : goal.invariant-loop-i
invariant-loop-i l = l.out.items ≡ l.initial.out.items ++ flat_map (response_at l.work l.x l.spans l.from) (range_with_len 0 l.i)
