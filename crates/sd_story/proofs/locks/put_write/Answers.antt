use Rattle.sd_story.proofs.Appends.{append_two}
use Rattle.sd_story.specs.Locks.{write_sentence}
use Rattle.sd_story.proofs.locks.put_write.Goals as goal

pub returns : goal.returns
unfolding write_sentence
returns c = append_two c.put_lock.result _ _ _ _ _ c.in_ok-put_thread.ensures c.put_lock.ensures
