use Rattle.std.proofs.Common.{take}
use Rattle.sd_stretches.specs.Rows.{own_onsets}
use Rattle.sd_stretches.proofs.PartLemmas.{onsets_more}
use Rattle.sd_stretches.proofs.by_thread.onset_rows.Goals as goal

pub loop-x-preserved : goal.loop-x-preserved
loop-x-preserved c =
    onsets_more c.args.onsets.now c.loop-x.x-index _ _ c.loop-x-test.true
    (c.in_ok-put.ensures (λ t. own_onsets t (take c.loop-x.x-index c.args.onsets.now)) c.loop-x.invariant)
