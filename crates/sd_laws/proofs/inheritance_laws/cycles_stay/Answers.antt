use Rattle.sd_laws.proofs.Runs.{cycles_law}
use Rattle.sd_laws.proofs.inheritance_laws.cycles_stay.Goals as goal

pub returns : goal.returns
returns c = cycles_law
