use Rattle.sd_story.proofs.Appends.{append_three}
use Rattle.sd_story.specs.Running.{dispatch_sentence}
use Rattle.sd_story.proofs.running.put_dispatch.Goals as goal

pub returns : goal.returns
unfolding dispatch_sentence
returns c = append_three c.put_priority.result _ _ _ _ _ _ _ c.in_ok-put_cpu.ensures c.in_ok-put_thread.ensures c.put_priority.ensures
