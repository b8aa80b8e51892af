use Rattle.sd_story.proofs.Appends.{append_three}
use Rattle.sd_viewer.specs.Drawings.{parts_line}
use Rattle.sd_viewer.proofs.lines.put_parts_line.Goals as goal

pub returns : goal.returns
unfolding parts_line
returns c = append_three c.put_threads_line.result _ _ _ _ _ _ _ c.in_ok-put_end_line.ensures c.in_ok-put_ticks_line.ensures c.put_threads_line.ensures
