use Rattle.sd_stretches.proofs.RangeLemmas.{range_pushed}
use Rattle.sd_statistics.specs.declared.activities.Activity.TheVariants.{WaitingFor}
use Rattle.sd_statistics.specs.Threads.{activity_row}
use Rattle.sd_statistics.proofs.threads.push_locks.Goals as goal

pub loop-l-preserved : goal.loop-l-preserved
loop-l-preserved c =
    range_pushed (λ k. activity_row c.args.t c.args.own.now (WaitingFor (record { 0 = k }))) c.loop-l.l _ _ _ c.loop-l.invariant c.in_ok-push_activity.ensures
