use Rattle.sd_stretches.proofs.SliceLemmas.{slices_exact}
use Rattle.sd_stretches.proofs.laws.slices_are_exact.Goals as goal

pub returns : goal.returns
returns c = slices_exact
