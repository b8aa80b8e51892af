use Rattle.sd_releases.specs.Tails.{handed_sema}
use Rattle.sd_tasks.proofs.Loops.{range_step}
use Rattle.sd_releases.proofs.tails.put_handed_semas.Goals as goal

pub loop-place-preserved : goal.loop-place-preserved
loop-place-preserved c = range_step (handed_sema c.args.number c.args.cpu) _ _ _ c.loop-place.place c.in_ok-push_handed_sema.ensures c.loop-place.invariant
