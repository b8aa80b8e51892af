use Rattle.sd_story.proofs.Appends.{append_four}
use Rattle.sd_story.specs.Locks.{exit_sentence}
use Rattle.sd_story.proofs.locks.put_exit.Goals as goal

pub returns : goal.returns
unfolding exit_sentence
returns g c = append_four c.put_fall_of.result _ _ _ _ _ _ _ _ _ c.in_ok-put_thread.ensures c.in_ok-put_lock.ensures c.in_ok-put_waiters_words.ensures c.put_fall_of.ensures
