use Rattle.sd_story.proofs.Appends.{append_three}
use Rattle.sd_story.proofs.sleeping.put_roused.Goals as goal

pub returns : goal.returns
returns c = append_three c.put_runnable.result _ _ _ _ _ _ _ c.in_ok-put_cpu.ensures c.in_ok-put_chan.ensures c.put_runnable.ensures
