use Rattle.sd_story.proofs.Appends.{append_two}
use Rattle.sd_story.proofs.requests.put_unbound.Goals as goal

pub returns : goal.returns
returns c = append_two c.put_thread-2.result _ _ _ _ _ c.in_ok-put_thread.ensures c.put_thread-2.ensures
