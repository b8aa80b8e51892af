use Rattle.sd_story.proofs.Appends.{append_two}
use Rattle.sd_story.specs.Locks.{enter_sentence}
use Rattle.sd_story.proofs.locks.put_enter.Goals as goal

pub returns : goal.returns
unfolding enter_sentence
returns c = append_two c.put_lock.result _ _ _ _ _ c.in_ok-put_thread.ensures c.put_lock.ensures
