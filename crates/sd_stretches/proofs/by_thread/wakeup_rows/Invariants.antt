use Rattle.std.proofs.Common.{take}
use Rattle.sd_stretches.specs.Parted.{AreRows}
use Rattle.sd_stretches.specs.Rows.{own_wakeups}
use Rattle.sd_stretches.proofs.by_thread.wakeup_rows.Given as goal

abbrev pub invariant-loop-x : goal.invariant-loop-x
invariant-loop-x l = AreRows (λ t. own_wakeups t (take l.x-index l.wakeups)) l.rows.items
