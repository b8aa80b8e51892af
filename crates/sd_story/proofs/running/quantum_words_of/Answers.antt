use Rattle.std.proofs.Common.{ap, ◌∙◌}
use Rattle.sd_types.specs.declared.bodies.ThreadBody.{ThreadBody}
use Rattle.sd_story.specs.Running.{quantum_words}
use Rattle.sd_story.proofs.running.quantum_words_of.Goals as goal

pub returns-in-Some : goal.returns-in-Some
returns-in-Some g c = c.quantum_words.ensures ∙ ap (λ (b : ThreadBody). quantum_words b.class) c.in-Some.ensures

pub returns-in-None : goal.returns-in-None
returns-in-None g c = ap (λ (b : ThreadBody). quantum_words b.class) c.in-None.ensures
