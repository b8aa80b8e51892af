use Rattle.sd_script.proofs.FaultLemmas.{fault_at-append, fault_at-append_alone}
use Rattle.sd_script.proofs.laws.faults_stay.Goals as goal

pub returns-clause-followed : goal.returns-clause-followed
returns-clause-followed c = fault_at-append

pub returns-clause-alone : goal.returns-clause-alone
returns-clause-alone c = fault_at-append_alone
