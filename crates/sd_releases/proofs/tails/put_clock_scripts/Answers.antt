use Rattle.sd_tasks.specs.Kept.{above_kept}
use Rattle.sd_releases.specs.Tails.{scripts_of_clock}
use Rattle.sd_tasks.proofs.Loops.{range_step}
use Rattle.sd_releases.proofs.tails.put_clock_scripts.Goals as goal

pub loop-cpu-preserved : goal.loop-cpu-preserved
loop-cpu-preserved c = range_step (scripts_of_clock (above_kept c.args.facts.now) c.args.number) _ _ _ c.loop-cpu.cpu c.in_ok-put_scripts_of_clock.ensures c.loop-cpu.invariant
