use Rattle.sd_story.proofs.Appends.{append_two}
use Rattle.sd_story.specs.Requests.{joined_sentence}
use Rattle.sd_story.proofs.requests.put_joined.Goals as goal

pub returns : goal.returns
unfolding joined_sentence
returns c = append_two c.put_set.result _ _ _ _ _ c.in_ok-put_cpu.ensures c.put_set.ensures
