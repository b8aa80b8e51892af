use Rattle.std.proofs.Common.{◌≡◌, take}
use Rattle.std.specs.Prelude.{sum_by}
use Rattle.sd_statistics.specs.Inherited.{inherited_ticks}
use Rattle.sd_statistics.specs.Spans.{at_most_u64}
use Rattle.sd_statistics.proofs.inherited.all_inherited.Given as goal

abbrev pub invariant-loop-x : goal.invariant-loop-x
invariant-loop-x l = l.ticks ≡ at_most_u64 (sum_by inherited_ticks (take l.x-index l.levels))
