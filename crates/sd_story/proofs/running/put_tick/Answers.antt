use Rattle.sd_story.proofs.Appends.{append_two}
use Rattle.sd_story.specs.Running.{tick_sentence}
use Rattle.sd_story.proofs.running.put_tick.Goals as goal

pub returns : goal.returns
unfolding tick_sentence
returns g c = append_two c.put_quantum_words.result _ _ _ _ _ c.in_ok-put_thread.ensures c.put_quantum_words.ensures
