use Rattle.sd_laws.proofs.Runnable.{runnable_law}
use Rattle.sd_laws.proofs.history_laws.woken_stay_runnable.Goals as goal

pub returns : goal.returns
returns c = runnable_law
