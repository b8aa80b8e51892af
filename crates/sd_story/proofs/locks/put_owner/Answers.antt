use Rattle.sd_story.proofs.Appends.{append_three}
use Rattle.sd_story.proofs.locks.put_owner.Goals as goal

pub returns : goal.returns
returns c = append_three c.put_priority.result _ _ _ _ _ _ _ c.in_ok-put_words.ensures c.in_ok-put_thread.ensures c.put_priority.ensures
