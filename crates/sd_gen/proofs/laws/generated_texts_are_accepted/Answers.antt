use Rattle.sd_gen.proofs.DrawnWholeLemmas.{generated-declares}
use Rattle.sd_gen.proofs.AnswerLemmas.{accepted-work}
use Rattle.sd_gen.specs.Generated.{generated}
use Rattle.sd_gen.proofs.laws.generated_texts_are_accepted.Goals as goal

pub returns : goal.returns
returns c = λ n. let p = generated-declares n in accepted-work (generated n) p.0 p.1
