use Rattle.sd_story.proofs.Appends.{append_two}
use Rattle.sd_story.specs.Requests.{age_sentence}
use Rattle.sd_story.proofs.requests.put_age.Goals as goal

pub returns : goal.returns
unfolding age_sentence
returns g c = append_two c.put_change_of.result _ _ _ _ _ c.in_ok-put_thread.ensures c.put_change_of.ensures
