use Rattle.sd_story.proofs.Appends.{append_two}
use Rattle.sd_viewer.proofs.lines.put_counted.Goals as goal

pub returns : goal.returns
returns c = append_two c.put_number.result _ _ _ _ _ c.in_ok-put_words.ensures c.put_number.ensures.ok
