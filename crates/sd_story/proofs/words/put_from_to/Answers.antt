use Rattle.sd_story.proofs.Appends.{append_three}
use Rattle.sd_story.proofs.words.put_from_to.Goals as goal

pub returns : goal.returns
returns c = append_three c.put_priority-2.result _ _ _ _ _ _ _ c.in_ok-put_words.ensures c.in_ok-put_priority.ensures c.put_priority-2.ensures
