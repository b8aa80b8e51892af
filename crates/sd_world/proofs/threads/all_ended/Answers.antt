use Rattle.sd_world.proofs.threads.all_ended.Goals as goal

pub loop-c-preserved : goal.loop-c-preserved
loop-c-preserved c s told = c.tell_ended.ensures s told (c.loop-c.invariant s told)
