use Rattle.std.proofs.Common.{arith}
use Rattle.std.proofs.lemmas.Grind.{common_steps}
use Rattle.sd_stretches.proofs.RangeLemmas.{filter_take_more}
use Rattle.sd_statistics.specs.Jobs.{told_entries}
use Rattle.sd_statistics.proofs.jobs.told_entries.Goals as goal

pub loop-x-preserved : goal.loop-x-preserved
unfolding told_entries
loop-x-preserved c = grind (arith, common_steps, filter_take_more)
