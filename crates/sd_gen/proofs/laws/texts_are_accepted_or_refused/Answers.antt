use Rattle.sd_gen.proofs.AnswerLemmas.{one-answer}
use Rattle.sd_gen.proofs.laws.texts_are_accepted_or_refused.Goals as goal

pub returns : goal.returns
returns c = one-answer
