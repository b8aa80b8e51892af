use Rattle.sd_timeline.specs.Style.{style, letters, lines, forms, colours, stripes}
use Rattle.sd_timeline.proofs.style.put_style.Goals as goal

pub returns : goal.returns
unfolding style letters lines forms colours stripes
returns c = c.put_text.ensures
