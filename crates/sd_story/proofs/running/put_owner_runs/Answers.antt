use Rattle.sd_story.proofs.Appends.{append_two}
use Rattle.sd_story.proofs.running.put_owner_runs.Goals as goal

pub returns : goal.returns
returns c = append_two c.put_thread.result _ _ _ _ _ c.in_ok-put_words.ensures c.put_thread.ensures
