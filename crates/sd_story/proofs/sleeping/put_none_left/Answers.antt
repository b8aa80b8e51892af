use Rattle.sd_story.proofs.Appends.{append_two}
use Rattle.sd_story.proofs.sleeping.put_none_left.Goals as goal

pub returns : goal.returns
returns c = append_two c.put_chan.result _ _ _ _ _ c.in_ok-put_cpu.ensures c.put_chan.ensures
