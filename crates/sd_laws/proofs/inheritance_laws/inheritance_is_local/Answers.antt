use Rattle.sd_laws.proofs.Runs.{local_law}
use Rattle.sd_laws.proofs.inheritance_laws.inheritance_is_local.Goals as goal

pub returns : goal.returns
returns c = λ w n s reached. local_law w n s reached
