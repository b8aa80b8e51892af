use Rattle.std.proofs.Common.{arith}
use Rattle.std.proofs.lemmas.Grind.{common_steps}
use Rattle.sd_stretches.proofs.RangeLemmas.{flat_map_take_more}
use Rattle.sd_timeline.proofs.circles.dead_threads.Goals as goal

pub loop-threads-preserved : goal.loop-threads-preserved
loop-threads-preserved c = grind (arith, common_steps, flat_map_take_more)
