use Rattle.sd_tasks.specs.Kept.{above_kept}
use Rattle.sd_releases.specs.Tails.{handed_semas}
use Rattle.sd_tasks.proofs.Loops.{range_step}
use Rattle.sd_releases.proofs.tails.put_all_semas.Goals as goal

pub loop-cpu-preserved : goal.loop-cpu-preserved
loop-cpu-preserved c = range_step (handed_semas (above_kept c.args.facts.now) c.args.number) _ _ _ c.loop-cpu.cpu c.in_ok-put_handed_semas.ensures c.loop-cpu.invariant
