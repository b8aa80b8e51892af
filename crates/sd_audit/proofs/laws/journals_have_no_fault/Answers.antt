use Rattle.sd_audit.proofs.ExactLemmas.{no_fault, one_run}
use Rattle.sd_audit.proofs.laws.journals_have_no_fault.Goals as goal

pub returns : goal.returns
returns c = record { fault = no_fault; one = one_run }
