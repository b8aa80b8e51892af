use Rattle.sd_stretches.proofs.RangeLemmas.{range_pushed}
use Rattle.sd_statistics.specs.Jobs.{untaken_at}
use Rattle.sd_statistics.proofs.jobs.push_all_untaken.Goals as goal

pub loop-i-preserved : goal.loop-i-preserved
loop-i-preserved c =
    range_pushed (untaken_at c.args.count c.args.units.now c.args.taken) c.loop-i.i _ _ _ c.loop-i.invariant c.in_ok-push_untaken.ensures
