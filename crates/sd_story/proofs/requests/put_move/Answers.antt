use Rattle.sd_story.proofs.Appends.{append_two}
use Rattle.sd_story.specs.Requests.{move_sentence}
use Rattle.sd_story.proofs.requests.put_move.Goals as goal

pub returns : goal.returns
unfolding move_sentence
returns c = append_two c.put_runnable.result _ _ _ _ _ c.in_ok-put_cpu.ensures c.put_runnable.ensures
