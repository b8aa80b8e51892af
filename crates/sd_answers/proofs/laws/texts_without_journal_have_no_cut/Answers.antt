use Rattle.sd_answers.proofs.CutLemmas.{none_cut}
use Rattle.sd_answers.proofs.laws.texts_without_journal_have_no_cut.Goals as goal

pub returns : goal.returns
returns c = λ text a b none is. none_cut text a b none is
