use Rattle.sd_story.proofs.Appends.{append_four}
use Rattle.sd_story.specs.Sleeping.{semap_sentence}
use Rattle.sd_story.proofs.sleeping.put_semap.Goals as goal

pub returns : goal.returns
unfolding semap_sentence
returns g c = append_four c.put_one_less.result _ _ _ _ _ _ _ _ _ c.in_ok-put_thread.ensures c.in_ok-put_chan.ensures c.in_ok-put_count_of.ensures c.put_one_less.ensures
