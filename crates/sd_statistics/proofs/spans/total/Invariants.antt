use Rattle.std.proofs.Common.{◌≡◌, take}
use Rattle.std.specs.Prelude.{sum_by}
use Rattle.sd_statistics.specs.Spans.{at_most_u64, ticks_of}
use Rattle.sd_statistics.proofs.spans.total.Given as goal

abbrev pub invariant-loop-x : goal.invariant-loop-x
invariant-loop-x l = l.ticks ≡ at_most_u64 (sum_by ticks_of (take l.x-index l.spans))
