use Rattle.sd_story.proofs.Appends.{append_four}
use Rattle.sd_story.specs.Requests.{assign_sentence}
use Rattle.sd_story.proofs.requests.put_assign.Goals as goal

pub returns : goal.returns
unfolding assign_sentence
returns c = append_four c.put_assign_words.result _ _ _ _ _ _ _ _ _ c.in_ok-put_thread.ensures c.in_ok-put_cpu.ensures c.in_ok-put_set.ensures c.put_assign_words.ensures
