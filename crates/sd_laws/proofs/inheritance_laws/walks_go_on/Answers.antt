use Rattle.sd_laws.proofs.GoOn.{go_on_law}
use Rattle.sd_laws.proofs.inheritance_laws.walks_go_on.Goals as goal

pub returns : goal.returns
returns c = go_on_law
