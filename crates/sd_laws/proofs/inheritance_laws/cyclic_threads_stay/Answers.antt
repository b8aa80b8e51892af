use Rattle.sd_laws.proofs.Runs.{cyclic_law}
use Rattle.sd_laws.proofs.inheritance_laws.cyclic_threads_stay.Goals as goal

pub returns : goal.returns
returns c = cyclic_law
