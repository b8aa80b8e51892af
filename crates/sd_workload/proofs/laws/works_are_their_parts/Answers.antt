use Rattle.sd_workload.proofs.PartsLemmas.{one_work}
use Rattle.sd_workload.proofs.laws.works_are_their_parts.Goals as goal

pub returns : goal.returns
returns c = one_work
