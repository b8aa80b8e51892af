use Rattle.sd_story.proofs.Appends.{append_two}
use Rattle.sd_story.specs.Sleeping.{nap_sentence}
use Rattle.sd_story.proofs.sleeping.put_nap.Goals as goal

pub returns : goal.returns
unfolding nap_sentence
returns g c = append_two c.put_nap_end.result _ _ _ _ _ c.in_ok-put_thread.ensures c.put_nap_end.ensures
