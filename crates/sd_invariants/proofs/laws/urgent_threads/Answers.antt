use Rattle.sd_state.proofs.ClassLemmas.{urgent_law}
use Rattle.sd_invariants.proofs.laws.urgent_threads.Goals as goal

pub returns : goal.returns
returns c = urgent_law
