use Rattle.sd_laws.proofs.All.{threads_belong}
use Rattle.sd_laws.proofs.belonging_laws.threads_belong.Goals as goal

pub returns : goal.returns
returns c = threads_belong
