use Rattle.sd_dispadmin.proofs.LawLemmas.{table_or_fault, never_both, one_fault}
use Rattle.sd_dispadmin.proofs.laws.texts_have_one_answer.Goals as goal

pub returns-clause-one : goal.returns-clause-one
returns-clause-one c = table_or_fault

pub returns-clause-never_both : goal.returns-clause-never_both
returns-clause-never_both c = never_both

pub returns-clause-same : goal.returns-clause-same
returns-clause-same c = one_fault
