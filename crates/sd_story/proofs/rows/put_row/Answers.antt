use Rattle.sd_story.proofs.Appends.{append_four}
use Rattle.sd_story.specs.Story.{row}
use Rattle.sd_story.proofs.rows.put_row.Goals as goal

pub returns : goal.returns
unfolding row
returns g c = append_four c.put_newline.result _ _ _ _ _ _ _ _ _ c.in_ok-put_tick_of.ensures c.in_ok-put_line.ensures c.in_ok-put_words.ensures c.put_newline.ensures
