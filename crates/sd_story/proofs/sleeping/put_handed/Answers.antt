use Rattle.sd_story.proofs.Appends.{append_three}
use Rattle.sd_story.specs.Sleeping.{handed_sentence}
use Rattle.sd_story.proofs.sleeping.put_handed.Goals as goal

pub returns : goal.returns
unfolding handed_sentence
returns c = append_three c.put_runnable.result _ _ _ _ _ _ _ c.in_ok-put_thread.ensures c.in_ok-put_chan.ensures c.put_runnable.ensures
