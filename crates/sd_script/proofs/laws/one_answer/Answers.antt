use Rattle.sd_script.proofs.FaultLemmas.{some_answer, no_fault}
use Rattle.sd_script.proofs.laws.one_answer.Goals as goal

pub returns-clause-some : goal.returns-clause-some
returns-clause-some c = some_answer

pub returns-clause-one : goal.returns-clause-one
returns-clause-one c = no_fault
