use Rattle.sd_story.proofs.Appends.{append_two}
use Rattle.sd_story.specs.Running.{away_sentence}
use Rattle.sd_story.proofs.running.put_away.Goals as goal

pub returns : goal.returns
unfolding away_sentence
returns c = append_two c.put_cpu.result _ _ _ _ _ c.in_ok-put_thread.ensures c.put_cpu.ensures
