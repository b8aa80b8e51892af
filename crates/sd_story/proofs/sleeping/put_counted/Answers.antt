use Rattle.sd_story.proofs.Appends.{append_three}
use Rattle.sd_story.specs.Sleeping.{counted_sentence}
use Rattle.sd_story.proofs.sleeping.put_counted.Goals as goal

pub returns : goal.returns
unfolding counted_sentence
returns c = append_three c.put_new_count.result _ _ _ _ _ _ _ c.in_ok-put_thread.ensures c.in_ok-put_chan.ensures c.put_new_count.ensures
