use Rattle.sd_story.proofs.Appends.{append_three}
use Rattle.sd_viewer.specs.Drawings.{past_line}
use Rattle.sd_viewer.proofs.lines.put_past.Goals as goal

pub returns : goal.returns
unfolding past_line
returns c = append_three c.put_words-2.result _ _ _ _ _ _ _ c.in_ok-put_words.ensures c.in_ok-put_limit.ensures c.put_words-2.ensures
