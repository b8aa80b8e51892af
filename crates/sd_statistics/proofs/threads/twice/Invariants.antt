use Rattle.std.proofs.Common.{◌≡◌, take}
use Rattle.std.specs.Prelude.{sum_by}
use Rattle.sd_statistics.specs.Spans.{at_most_u64}
use Rattle.sd_statistics.specs.Threads.{ticks_behind}
use Rattle.sd_statistics.proofs.threads.twice.Given as goal

abbrev pub invariant-loop-x : goal.invariant-loop-x
invariant-loop-x l = l.ticks ≡ at_most_u64 (sum_by ticks_behind (take l.x-index l.own))
