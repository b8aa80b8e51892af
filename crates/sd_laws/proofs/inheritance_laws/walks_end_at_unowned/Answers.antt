use Rattle.sd_laws.proofs.GoOn.{end_law}
use Rattle.sd_laws.proofs.inheritance_laws.walks_end_at_unowned.Goals as goal

pub returns : goal.returns
returns c = end_law
