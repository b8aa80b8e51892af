use Rattle.sd_invariants.proofs.Places.{threads_have_cpus}
use Rattle.sd_invariants.proofs.range_laws.threads_have_cpus.Goals as goal

pub returns : goal.returns
returns c = threads_have_cpus
