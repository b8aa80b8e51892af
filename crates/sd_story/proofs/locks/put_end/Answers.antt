use Rattle.sd_story.proofs.Appends.{append_three}
use Rattle.sd_story.specs.Locks.{end_sentence}
use Rattle.sd_story.proofs.locks.put_end.Goals as goal

pub returns : goal.returns
unfolding end_sentence
returns g c = append_three c.put_end_words.result _ _ _ _ _ _ _ c.in_ok-put_words.ensures c.in_ok-put_lock.ensures c.put_end_words.ensures
