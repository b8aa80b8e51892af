use Rattle.std.proofs.Common.{◌≡◌, ◌++◌}
use Rattle.std.specs.List.{flat_map, range_with_len}
use Rattle.sd_accounts.specs.Counters.{counted_thread_line}
use Rattle.sd_accounts.proofs.lines.put_threads.Given as goal

abbrev pub invariant-loop-t : goal.invariant-loop-t
invariant-loop-t l = l.out.items ≡ l.initial.out.items ++ flat_map (counted_thread_line l.work l.threads l.s) (range_with_len 0 l.t)
