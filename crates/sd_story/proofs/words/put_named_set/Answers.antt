use Rattle.sd_story.proofs.Appends.{append_two}
use Rattle.sd_story.proofs.words.put_named_set.Goals as goal

pub returns : goal.returns
returns c = append_two c.put_set_name.result _ _ _ _ _ c.in_ok-put_words.ensures c.put_set_name.ensures.ok
