use Rattle.sd_story.proofs.Appends.{append_three}
use Rattle.sd_story.specs.Sleeping.{wakeall_sentence}
use Rattle.sd_story.proofs.sleeping.put_wakeall.Goals as goal

pub returns : goal.returns
unfolding wakeall_sentence
returns c = append_three c.put_cpu.result _ _ _ _ _ _ _ c.in_ok-put_thread.ensures c.in_ok-put_chan.ensures c.put_cpu.ensures
