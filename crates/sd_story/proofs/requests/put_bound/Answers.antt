use Rattle.sd_story.proofs.Appends.{append_three}
use Rattle.sd_story.proofs.requests.put_bound.Goals as goal

pub returns : goal.returns
returns c = append_three c.put_cpu.result _ _ _ _ _ _ _ c.in_ok-put_thread.ensures c.in_ok-put_thread-2.ensures c.put_cpu.ensures
