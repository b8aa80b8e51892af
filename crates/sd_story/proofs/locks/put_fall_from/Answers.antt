use Rattle.sd_story.proofs.Appends.{append_two}
use Rattle.sd_story.proofs.locks.put_fall_from.Goals as goal

pub returns : goal.returns
returns c = append_two c.put_change.result _ _ _ _ _ c.in_ok-put_words.ensures c.put_change.ensures
