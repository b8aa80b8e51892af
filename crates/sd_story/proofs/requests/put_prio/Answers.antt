use Rattle.sd_story.proofs.Appends.{append_three}
use Rattle.sd_story.specs.Requests.{prio_sentence}
use Rattle.sd_story.proofs.requests.put_prio.Goals as goal

pub returns : goal.returns
unfolding prio_sentence
returns g c = append_three c.put_answer.result _ _ _ _ _ _ _ c.in_ok-put_thread.ensures c.in_ok-put_thread-2.ensures c.put_answer.ensures
