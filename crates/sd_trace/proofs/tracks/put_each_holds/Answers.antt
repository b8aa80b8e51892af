use Rattle.sd_stretches.proofs.RangeLemmas.{range_pushed}
use Rattle.sd_trace.specs.Tracks.{own_holds}
use Rattle.sd_trace.proofs.tracks.put_each_holds.Goals as goal

pub loop-t-preserved : goal.loop-t-preserved
loop-t-preserved c = range_pushed (own_holds c.args.work.now c.args.all.now) c.loop-t.t _ _ _ c.loop-t.invariant c.in_ok-put_own_holds.ensures
