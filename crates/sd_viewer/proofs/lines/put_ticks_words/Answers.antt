use Rattle.sd_story.proofs.Appends.{append_three}
use Rattle.sd_viewer.specs.Drawings.{ticks_words}
use Rattle.sd_viewer.proofs.lines.put_ticks_words.Goals as goal

pub returns : goal.returns
unfolding ticks_words
returns c = append_three c.put_words.result _ _ _ _ _ _ _ c.in_ok-put_from_to.ensures c.in_ok-put_from_to-2.ensures c.put_words.ensures
