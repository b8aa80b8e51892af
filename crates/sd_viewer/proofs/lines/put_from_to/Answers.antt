use Rattle.sd_story.proofs.Appends.{append_two}
use Rattle.sd_viewer.specs.Drawings.{from_to}
use Rattle.sd_viewer.proofs.lines.put_from_to.Goals as goal

pub returns : goal.returns
unfolding from_to
returns c = append_two c.put_counted-2.result _ _ _ _ _ c.in_ok-put_counted.ensures c.put_counted-2.ensures
