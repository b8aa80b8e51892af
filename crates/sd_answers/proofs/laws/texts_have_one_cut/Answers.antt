use Rattle.sd_answers.proofs.CutLemmas.{before_same, after_same}
use Rattle.sd_answers.proofs.laws.texts_have_one_cut.Goals as goal

pub returns : goal.returns
returns c = λ text a b d e p q. (before_same text a b d e p q, after_same text a b d e p q)
