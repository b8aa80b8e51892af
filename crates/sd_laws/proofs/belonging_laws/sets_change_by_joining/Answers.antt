use Rattle.sd_laws.proofs.Joins.{sets_change}
use Rattle.sd_laws.proofs.belonging_laws.sets_change_by_joining.Goals as goal

pub returns : goal.returns
returns c = sets_change
