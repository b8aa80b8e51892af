use Rattle.std.proofs.Common.{◌≡◌, ◌++◌}
use Rattle.std.specs.List.{flat_map, range_with_len}
use Rattle.sd_statistics.specs.Jobs.{untaken_at}
use Rattle.sd_statistics.proofs.jobs.push_all_untaken.Given as goal

abbrev pub invariant-loop-i : goal.invariant-loop-i
invariant-loop-i l = l.out.items ≡ l.initial.out.items ++ flat_map (untaken_at l.count l.units l.taken) (range_with_len 0 l.i)
