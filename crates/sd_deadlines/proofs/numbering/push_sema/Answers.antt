use Rattle.sd_stretches.proofs.RangeLemmas.{range_pushed}
use Rattle.sd_deadlines.specs.Numbering.{found_task}
use Rattle.sd_deadlines.proofs.numbering.push_sema.Goals as goal

pub loop-t-preserved : goal.loop-t-preserved
loop-t-preserved c = range_pushed (found_task c.args.work.now c.args.k) c.loop-t.t _ _ _ c.loop-t.invariant c.in_ok-push_found.ensures
