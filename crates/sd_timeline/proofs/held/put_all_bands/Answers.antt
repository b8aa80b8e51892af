use Rattle.std.proofs.Common.{arith}
use Rattle.std.proofs.lemmas.Grind.{common_steps}
use Rattle.sd_stretches.proofs.RangeLemmas.{flat_take_more}
use Rattle.sd_timeline.proofs.held.put_all_bands.Goals as goal

pub loop-band-preserved : goal.loop-band-preserved
loop-band-preserved c = grind (arith, common_steps, flat_take_more)
