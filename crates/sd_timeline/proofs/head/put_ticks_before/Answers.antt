use Rattle.sd_stretches.proofs.RangeLemmas.{range_pushed}
use Rattle.sd_timeline.specs.Head.{mark_if}
use Rattle.sd_timeline.proofs.head.put_ticks_before.Goals as goal

pub loop-n-preserved : goal.loop-n-preserved
loop-n-preserved c = range_pushed (mark_if c.args.layout.now) c.loop-n.n _ _ _ c.loop-n.invariant c.in_ok-put_mark_if.ensures
