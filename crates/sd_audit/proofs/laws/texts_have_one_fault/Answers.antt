use Rattle.sd_audit.proofs.ExactLemmas.{one_fault}
use Rattle.sd_audit.proofs.laws.texts_have_one_fault.Goals as goal

pub returns : goal.returns
returns c = one_fault
