use Rattle.sd_workload.proofs.OneLemmas.{one-work}
use Rattle.sd_workload.proofs.laws.texts_have_one_work.Goals as goal

pub returns : goal.returns
returns c = one-work
