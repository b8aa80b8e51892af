use Rattle.sd_story.specs.Running.{idle_sentence}
use Rattle.sd_story.proofs.running.put_idle.Goals as goal

pub returns : goal.returns
unfolding idle_sentence
returns c = c.put_cpu.ensures
