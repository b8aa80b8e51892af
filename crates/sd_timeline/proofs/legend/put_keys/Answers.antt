use Rattle.sd_stretches.proofs.RangeLemmas.{range_pushed}
use Rattle.sd_timeline.specs.Legend.{key_at}
use Rattle.sd_timeline.proofs.legend.put_keys.Goals as goal

pub loop-n-preserved : goal.loop-n-preserved
loop-n-preserved c = range_pushed (key_at c.args.layout.now c.args.keys.now) c.loop-n.n _ _ _ c.loop-n.invariant c.in_ok-put_key_at.ensures
