use Rattle.sd_timeline.proofs.PictureLemmas.{timeline-text}
use Rattle.sd_timeline.proofs.laws.timelines_are_plain.Goals as goal

pub returns : goal.returns
returns c = timeline-text
