use Rattle.sd_story.proofs.Appends.{append_four}
use Rattle.sd_story.specs.Running.{steal_sentence}
use Rattle.sd_story.proofs.running.put_steal.Goals as goal

pub returns : goal.returns
unfolding steal_sentence
returns c = append_four c.put_cpu-2.result _ _ _ _ _ _ _ _ _ c.in_ok-put_cpu.ensures c.in_ok-put_thread.ensures c.in_ok-put_priority.ensures c.put_cpu-2.ensures
