use Rattle.sd_tasks.specs.Kept.{above_kept}
use Rattle.sd_releases.specs.Starters.{partition_binds}
use Rattle.sd_tasks.proofs.Loops.{range_step}
use Rattle.sd_releases.proofs.starters.put_set_binds.Goals as goal

pub loop-cpu-preserved : goal.loop-cpu-preserved
loop-cpu-preserved c = range_step (partition_binds (above_kept c.args.facts.now) c.args.number c.args.set) _ _ _ c.loop-cpu.cpu c.in_ok-put_partition_binds.ensures c.loop-cpu.invariant
