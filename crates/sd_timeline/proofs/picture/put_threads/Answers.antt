use Rattle.sd_stretches.proofs.RangeLemmas.{range_pushed}
use Rattle.sd_timeline.specs.Picture.{thread_text}
use Rattle.sd_timeline.proofs.picture.put_threads.Goals as goal

pub loop-t-preserved : goal.loop-t-preserved
loop-t-preserved c = range_pushed (thread_text c.args.work.now c.args.layout.now c.args.history.now c.args.holds.now c.args.s.now) c.loop-t.t _ _ _ c.loop-t.invariant c.in_ok-put_thread.ensures
