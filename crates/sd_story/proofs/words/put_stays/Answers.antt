use Rattle.sd_story.proofs.Appends.{append_two}
use Rattle.sd_story.proofs.words.put_stays.Goals as goal

pub returns : goal.returns
returns c = append_two c.put_priority.result _ _ _ _ _ c.in_ok-put_words.ensures c.put_priority.ensures
