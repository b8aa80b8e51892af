use Rattle.std.proofs.Common.{arith}
use Rattle.std.proofs.lemmas.Grind.{common_steps}
use Rattle.sd_stretches.proofs.RangeLemmas.{flat_take_more}
use Rattle.sd_report.proofs.set_responses.put_responses.Goals as goal

pub loop-x-preserved : goal.loop-x-preserved
loop-x-preserved c = grind (arith, common_steps, flat_take_more)
