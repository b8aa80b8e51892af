use Rattle.std.proofs.Common.{take}
use Rattle.sd_stretches.specs.Rows.{own_ranks}
use Rattle.sd_stretches.proofs.PartLemmas.{ranks_more}
use Rattle.sd_stretches.proofs.by_thread.rank_rows.Goals as goal

pub loop-x-preserved : goal.loop-x-preserved
loop-x-preserved c =
    ranks_more c.args.ranks.now c.loop-x.x-index _ _ c.loop-x-test.true
    (c.in_ok-put.ensures (λ t. own_ranks t (take c.loop-x.x-index c.args.ranks.now)) c.loop-x.invariant)
