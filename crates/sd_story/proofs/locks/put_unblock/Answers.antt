use Rattle.sd_story.proofs.Appends.{append_three}
use Rattle.sd_story.specs.Locks.{unblock_sentence}
use Rattle.sd_story.proofs.locks.put_unblock.Goals as goal

pub returns : goal.returns
unfolding unblock_sentence
returns c = append_three c.put_runnable.result _ _ _ _ _ _ _ c.in_ok-put_cpu.ensures c.in_ok-put_lock.ensures c.put_runnable.ensures
