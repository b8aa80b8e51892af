use Rattle.sd_layout.proofs.RowLemmas.{range_grown}
use Rattle.sd_layout.proofs.rows.thread_numbers.Goals as goal

pub loop-t-preserved : goal.loop-t-preserved
loop-t-preserved c = range_grown c.loop-t.t _ _ c.loop-t.invariant c.in_ok-push.ensures.items
