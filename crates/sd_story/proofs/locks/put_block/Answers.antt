use Rattle.sd_story.proofs.Appends.{append_three}
use Rattle.sd_story.specs.Locks.{block_sentence}
use Rattle.sd_story.proofs.locks.put_block.Goals as goal

pub returns : goal.returns
unfolding block_sentence
returns g c = append_three c.put_holder.result _ _ _ _ _ _ _ c.in_ok-put_thread.ensures c.in_ok-put_lock.ensures c.put_holder.ensures
