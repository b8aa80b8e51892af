use Rattle.std.proofs.Common.{arith}
use Rattle.std.proofs.lemmas.Grind.{common_steps}
use Rattle.sd_stretches.proofs.RangeLemmas.{filter_take_more}
use Rattle.sd_statistics.specs.Locks.{lock_entries}
use Rattle.sd_statistics.proofs.locks.lock_entries.Goals as goal

pub loop-x-preserved : goal.loop-x-preserved
unfolding lock_entries
loop-x-preserved c = grind (arith, common_steps, filter_take_more)
