use Rattle.std.proofs.Common.{sym, ◌∙◌}
use Rattle.sd_workload.specs.Texts.{verdict_of}
use Rattle.sd_workload.proofs.FirstLemmas.{either, apart, same-refusal}
use Rattle.sd_workload.proofs.laws.texts_have_one_answer.Goals as goal

pub returns-clause-one : goal.returns-clause-one
returns-clause-one c = λ text. either (verdict_of text)

pub returns-clause-never_both : goal.returns-clause-never_both
returns-clause-never_both c = λ text w line cause a f. apart a.declares line cause (sym a.accepted ∙ f)

pub returns-clause-same : goal.returns-clause-same
returns-clause-same c = λ text a b k e f g. same-refusal a b k e (sym f ∙ g)
