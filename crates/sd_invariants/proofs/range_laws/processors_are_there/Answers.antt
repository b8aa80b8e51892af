use Rattle.sd_invariants.proofs.All.{cpus_law}
use Rattle.sd_invariants.proofs.range_laws.processors_are_there.Goals as goal

pub returns : goal.returns
returns c = cpus_law
