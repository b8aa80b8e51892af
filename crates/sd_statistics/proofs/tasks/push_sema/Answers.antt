use Rattle.sd_stretches.proofs.RangeLemmas.{range_pushed}
use Rattle.sd_statistics.specs.Tasks.{task_part}
use Rattle.sd_statistics.proofs.tasks.push_sema.Goals as goal

pub loop-t-preserved : goal.loop-t-preserved
loop-t-preserved c =
    range_pushed (task_part c.args.work.now c.args.history.now c.args.end.now c.args.k c.args.count) c.loop-t.t _ _ _ c.loop-t.invariant
    c.in_ok-push_task.ensures
