use Rattle.sd_laws.proofs.Runs.{maxima_law}
use Rattle.sd_laws.proofs.inheritance_laws.priorities_are_maxima.Goals as goal

pub returns : goal.returns
returns c = λ w n s reached. maxima_law w n s reached
