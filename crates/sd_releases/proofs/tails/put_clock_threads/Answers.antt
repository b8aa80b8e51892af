use Rattle.sd_tasks.specs.Kept.{above_kept}
use Rattle.sd_releases.specs.Tails.{clock_threads}
use Rattle.sd_tasks.proofs.Loops.{range_step}
use Rattle.sd_releases.proofs.tails.put_clock_threads.Goals as goal

pub loop-cpu-preserved : goal.loop-cpu-preserved
loop-cpu-preserved c = range_step (clock_threads (above_kept c.args.facts.now) c.args.number) _ _ _ c.loop-cpu.cpu c.in_ok-put_clock_thread.ensures c.loop-cpu.invariant
