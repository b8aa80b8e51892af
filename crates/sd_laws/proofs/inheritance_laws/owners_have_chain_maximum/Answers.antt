use Rattle.sd_laws.proofs.Runs.{maximum_law}
use Rattle.sd_laws.proofs.inheritance_laws.owners_have_chain_maximum.Goals as goal

pub returns : goal.returns
returns c = λ w n s reached. maximum_law w n s reached
