use Rattle.sd_laws.proofs.Runs.{without_law}
use Rattle.sd_laws.proofs.inheritance_laws.priorities_are_maxima_without_cycles.Goals as goal

pub returns : goal.returns
returns c = without_law
