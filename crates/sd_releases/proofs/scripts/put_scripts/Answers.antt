use Rattle.std.proofs.Common.{length}
use Rattle.sd_tasks.specs.WrittenKept.{lines_kept}
use Rattle.sd_releases.specs.Clocks.{clock_script}
use Rattle.sd_tasks.proofs.Loops.{range_step}
use Rattle.sd_releases.proofs.scripts.put_scripts.Goals as goal

pub loop-place-preserved : goal.loop-place-preserved
loop-place-preserved c = range_step (clock_script c.args.number c.args.cpu (length c.args.ops.now) (lines_kept c.args.ops.now)) _ _ _ c.loop-place.place c.in_ok-put_script.ensures c.loop-place.invariant
