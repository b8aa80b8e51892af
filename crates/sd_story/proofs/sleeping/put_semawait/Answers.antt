use Rattle.sd_story.proofs.Appends.{append_two}
use Rattle.sd_story.specs.Sleeping.{semawait_sentence}
use Rattle.sd_story.proofs.sleeping.put_semawait.Goals as goal

pub returns : goal.returns
unfolding semawait_sentence
returns c = append_two c.put_chan.result _ _ _ _ _ c.in_ok-put_thread.ensures c.put_chan.ensures
