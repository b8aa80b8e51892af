use Rattle.sd_laws.proofs.Runs.{lead_law}
use Rattle.sd_laws.proofs.inheritance_laws.walks_lead_on.Goals as goal

pub returns : goal.returns
returns c = λ w n s reached. lead_law w n s reached
