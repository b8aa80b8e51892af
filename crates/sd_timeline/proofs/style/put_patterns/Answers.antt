use Rattle.sd_timeline.specs.Style.{patterns, thread_patterns, state_patterns, textures, tips}
use Rattle.sd_timeline.proofs.style.put_patterns.Goals as goal

pub returns : goal.returns
unfolding patterns thread_patterns state_patterns textures tips
returns c = c.put_text.ensures
