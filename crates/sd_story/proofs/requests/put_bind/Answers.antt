use Rattle.sd_story.proofs.Appends.{append_two}
use Rattle.sd_story.specs.Requests.{bind_sentence}
use Rattle.sd_story.proofs.requests.put_bind.Goals as goal

pub returns : goal.returns
unfolding bind_sentence
returns c = append_two c.put_bind_words.result _ _ _ _ _ c.in_ok-put_binding.ensures c.put_bind_words.ensures
