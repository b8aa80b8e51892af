use Rattle.sd_invariants.proofs.Sets.{sets_are_open}
use Rattle.sd_invariants.proofs.range_laws.sets_are_open.Goals as goal

pub returns : goal.returns
returns c = sets_are_open
