use Rattle.sd_tasks.specs.Kept.{above_kept}
use Rattle.sd_releases.specs.Tails.{clock_thread}
use Rattle.sd_tasks.proofs.Loops.{range_step}
use Rattle.sd_releases.proofs.tails.put_clock_thread.Goals as goal

pub loop-place-preserved : goal.loop-place-preserved
loop-place-preserved c = range_step (clock_thread (above_kept c.args.facts.now) c.args.number c.args.cpu) _ _ _ c.loop-place.place c.in_ok-push_clock_thread.ensures c.loop-place.invariant
