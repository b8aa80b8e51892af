use Rattle.std.proofs.Common.{arith}
use Rattle.sd_statistics.proofs.JobLemmas.{taken_more}
use Rattle.sd_statistics.proofs.jobs.taken_in.Goals as goal

pub loop-x-preserved : goal.loop-x-preserved
loop-x-preserved c = record {
  counted = taken_more c.args.told.now c.loop-x.x-index c.loop-x.taken _ _ c.loop-x-test.true c.loop-x.invariant.counted c.taken_after-taken.ensures.value;
  few = omega (arith, c.loop-x.invariant.few, c.taken_after-taken.ensures.bound);
}
