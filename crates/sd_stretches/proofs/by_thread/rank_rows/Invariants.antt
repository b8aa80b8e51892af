use Rattle.std.proofs.Common.{take}
use Rattle.sd_stretches.specs.Parted.{AreRows}
use Rattle.sd_stretches.specs.Rows.{own_ranks}
use Rattle.sd_stretches.proofs.by_thread.rank_rows.Given as goal

abbrev pub invariant-loop-x : goal.invariant-loop-x
invariant-loop-x l = AreRows (λ t. own_ranks t (take l.x-index l.ranks)) l.rows.items
