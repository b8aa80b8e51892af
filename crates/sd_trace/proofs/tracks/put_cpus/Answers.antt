use Rattle.sd_stretches.proofs.RangeLemmas.{range_pushed}
use Rattle.sd_trace.specs.Tracks.{cpu_part}
use Rattle.sd_trace.proofs.tracks.put_cpus.Goals as goal

pub loop-c-preserved : goal.loop-c-preserved
loop-c-preserved c = range_pushed (cpu_part c.args.work.now c.args.history.now) c.loop-c.c _ _ _ c.loop-c.invariant c.in_ok-put_cpu.ensures
