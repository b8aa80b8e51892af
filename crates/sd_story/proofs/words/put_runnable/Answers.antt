use Rattle.sd_story.proofs.Appends.{append_two}
use Rattle.sd_story.specs.Words.{runnable_words}
use Rattle.sd_story.proofs.words.put_runnable.Goals as goal

pub returns : goal.returns
unfolding runnable_words
returns c = append_two c.put_place.result _ _ _ _ _ c.in_ok-put_thread.ensures c.put_place.ensures
