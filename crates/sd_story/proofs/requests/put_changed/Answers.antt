use Rattle.sd_story.proofs.Appends.{append_three}
use Rattle.sd_story.proofs.requests.put_changed.Goals as goal

pub returns : goal.returns
returns c = append_three c.put_requeued.result _ _ _ _ _ _ _ c.in_ok-put_words.ensures c.in_ok-put_change.ensures c.put_requeued.ensures
