use Rattle.sd_script.proofs.FaultLemmas.{same_fault}
use Rattle.sd_script.proofs.laws.one_fault.Goals as goal

pub returns : goal.returns
returns c = same_fault
