use Rattle.sd_story.proofs.Appends.{append_three}
use Rattle.sd_story.specs.Running.{spin_sentence}
use Rattle.sd_story.proofs.running.put_spin.Goals as goal

pub returns : goal.returns
unfolding spin_sentence
returns g c = append_three c.put_reason.result _ _ _ _ _ _ _ c.in_ok-put_thread.ensures c.in_ok-put_lock.ensures c.put_reason.ensures
