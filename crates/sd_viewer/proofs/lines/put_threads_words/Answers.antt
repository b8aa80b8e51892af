use Rattle.sd_story.proofs.Appends.{append_two}
use Rattle.sd_viewer.specs.Drawings.{threads_words}
use Rattle.sd_viewer.proofs.lines.put_threads_words.Goals as goal

pub returns : goal.returns
unfolding threads_words
returns c = append_two c.put_words.result _ _ _ _ _ c.in_ok-put_counted.ensures c.put_words.ensures
