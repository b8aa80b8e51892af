use Rattle.std.proofs.Common.{[]}
use Rattle.sd_stretches.proofs.RangeLemmas.{range_pushed}
use Rattle.sd_timeline.specs.Moments.{drawn_by}
use Rattle.sd_timeline.proofs.moments.drawn_pieces.Goals as goal

pub loop-t-preserved : goal.loop-t-preserved
loop-t-preserved c = range_pushed (drawn_by c.args.work.now c.args.layout.now c.args.history.now) c.loop-t.t [] _ _ c.loop-t.invariant c.in_ok-push_own.ensures
