use Rattle.sd_story.proofs.Appends.{append_two}
use Rattle.sd_story.specs.Sleeping.{napend_sentence}
use Rattle.sd_story.proofs.sleeping.put_napend.Goals as goal

pub returns : goal.returns
unfolding napend_sentence
returns c = append_two c.put_runnable.result _ _ _ _ _ c.in_ok-put_words.ensures c.put_runnable.ensures
