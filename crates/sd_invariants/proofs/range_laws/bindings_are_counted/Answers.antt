use Rattle.sd_invariants.proofs.Bindings.{bound_are_counted}
use Rattle.sd_invariants.proofs.range_laws.bindings_are_counted.Goals as goal

pub returns : goal.returns
returns c = bound_are_counted
