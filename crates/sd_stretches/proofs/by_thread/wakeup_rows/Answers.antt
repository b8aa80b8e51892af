use Rattle.std.proofs.Common.{take}
use Rattle.sd_stretches.specs.Rows.{own_wakeups}
use Rattle.sd_stretches.proofs.PartLemmas.{wakeups_more}
use Rattle.sd_stretches.proofs.by_thread.wakeup_rows.Goals as goal

pub loop-x-preserved : goal.loop-x-preserved
loop-x-preserved c =
    wakeups_more c.args.wakeups.now c.loop-x.x-index _ _ c.loop-x-test.true
    (c.in_ok-put.ensures (λ t. own_wakeups t (take c.loop-x.x-index c.args.wakeups.now)) c.loop-x.invariant)
