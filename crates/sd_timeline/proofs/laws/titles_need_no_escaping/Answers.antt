use Rattle.sd_timeline.proofs.PictureLemmas.{plain_titles}
use Rattle.sd_timeline.proofs.laws.titles_need_no_escaping.Goals as goal

pub returns : goal.returns
returns c = plain_titles
