use Rattle.sd_story.proofs.Appends.{append_four}
use Rattle.sd_story.specs.Locks.{will_sentence}
use Rattle.sd_story.proofs.locks.put_will.Goals as goal

pub returns : goal.returns
unfolding will_sentence
returns g c = append_four c.put_requeued.result _ _ _ _ _ _ _ _ _ c.in_ok-put_thread.ensures c.in_ok-put_lock.ensures c.in_ok-put_change_of.ensures c.put_requeued.ensures
