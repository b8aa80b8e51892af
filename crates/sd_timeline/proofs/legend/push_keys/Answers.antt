use Rattle.std.proofs.Common.{arith}
use Rattle.std.proofs.lemmas.Grind.{common_steps}
use Rattle.sd_stretches.proofs.RangeLemmas.{filter_take_more}
use Rattle.sd_timeline.proofs.legend.push_keys.Goals as goal

pub loop-key-preserved : goal.loop-key-preserved
loop-key-preserved c = grind (arith, common_steps, filter_take_more)
