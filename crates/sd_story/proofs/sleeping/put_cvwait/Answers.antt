use Rattle.sd_story.proofs.Appends.{append_three}
use Rattle.sd_story.specs.Sleeping.{cvwait_sentence}
use Rattle.sd_story.proofs.sleeping.put_cvwait.Goals as goal

pub returns : goal.returns
unfolding cvwait_sentence
returns c = append_three c.put_chan.result _ _ _ _ _ _ _ c.in_ok-put_thread.ensures c.in_ok-put_lock.ensures c.put_chan.ensures
