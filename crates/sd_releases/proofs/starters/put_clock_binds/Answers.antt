use Rattle.sd_releases.specs.Starters.{clock_bind}
use Rattle.sd_tasks.proofs.Loops.{range_step}
use Rattle.sd_releases.proofs.starters.put_clock_binds.Goals as goal

pub loop-place-preserved : goal.loop-place-preserved
loop-place-preserved c = range_step (clock_bind c.args.number c.args.cpu) _ _ _ c.loop-place.place c.in_ok-put_clock_bind.ensures c.loop-place.invariant
