use Rattle.sd_stretches.proofs.RangeLemmas.{range_pushed}
use Rattle.sd_timeline.specs.Head.{cpu_head}
use Rattle.sd_timeline.proofs.head.put_cpu_heads.Goals as goal

pub loop-c-preserved : goal.loop-c-preserved
loop-c-preserved c = range_pushed (cpu_head c.args.work.now c.args.layout.now) c.loop-c.c _ _ _ c.loop-c.invariant c.in_ok-put_cpu_head.ensures
